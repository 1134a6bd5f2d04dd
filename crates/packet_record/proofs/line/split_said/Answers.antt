use Rattle.std.proofs.Common.{◌++◌}
use Rattle.packet_record.specs.Printing.{direction_text}
use Rattle.packet_record.proofs.LineLemmas.{cut_first, direction_begins, has_parts, said_in_front, same_said}
use Rattle.packet_record.proofs.line.split_said.Goals as goal

pub returns-in_err-moment-clause-every : goal.returns-in_err-moment-clause-every
returns-in_err-moment-clause-every c = λ line rest says cut e other.
    let p = has_parts line says e in
    absurd (c.in_err-moment.ensures.every p.first (direction_text says.direction ++ (p.third ++ rest)) says.moment
    (cut_first c.args.text.now line rest says.moment says.size says.direction p cut) p.moment
    (direction_begins says.direction (p.third ++ rest)))

pub returns-in_err-direction-clause-every : goal.returns-in_err-direction-clause-every
returns-in_err-direction-clause-every c = λ line rest says cut e other.
    let p = has_parts line says e in
    let a = c.in_ok-moment.ensures.every p.first (direction_text says.direction ++ (p.third ++ rest)) says.moment
    (cut_first c.args.text.now line rest says.moment says.size says.direction p cut) p.moment
    (direction_begins says.direction (p.third ++ rest)) in
    absurd (c.in_err-direction.ensures.every says.direction (p.third ++ rest) a.1)

pub returns-in_err-size-clause-every : goal.returns-in_err-size-clause-every
returns-in_err-size-clause-every c = λ line rest says cut e other.
    let p = has_parts line says e in
    let a = c.in_ok-moment.ensures.every p.first (direction_text says.direction ++ (p.third ++ rest)) says.moment
    (cut_first c.args.text.now line rest says.moment says.size says.direction p cut) p.moment
    (direction_begins says.direction (p.third ++ rest)) in
    let b = c.in_ok-direction.ensures.every says.direction (p.third ++ rest) a.1 in
    absurd (c.in_err-size.ensures.every p.third rest says.size b.1 p.size other)

pub returns-clause-read : goal.returns-clause-read
returns-clause-read c =
    let first = c.in_ok-moment.ensures.read in
    let third = c.in_ok-size.ensures.read in
    said_in_front c.args.text.now first.0 third.0 c.in_ok-moment.rest.now c.in_ok-direction.rest.now
    c.in_ok-size.rest.now c.in_ok-direction.direction c.in_ok-moment.moment c.in_ok-size.size
    first.1 first.2 c.in_ok-direction.ensures.read third.1 third.2

pub returns-clause-every : goal.returns-clause-every
returns-clause-every c = λ line rest says cut e other.
    let p = has_parts line says e in
    let a = c.in_ok-moment.ensures.every p.first (direction_text says.direction ++ (p.third ++ rest)) says.moment
    (cut_first c.args.text.now line rest says.moment says.size says.direction p cut) p.moment
    (direction_begins says.direction (p.third ++ rest)) in
    let b = c.in_ok-direction.ensures.every says.direction (p.third ++ rest) a.1 in
    let z = c.in_ok-size.ensures.every p.third rest says.size b.1 p.size other in
    (same_said c.in_ok-moment.moment c.in_ok-size.size c.in_ok-direction.direction says a.0 b.0 z.0, z.1)
