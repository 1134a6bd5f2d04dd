-- Streams that go on.
use Rattle.std.proofs.Common.{◌≡◌, ℕ, ◌≤◌, Bool, false, cond, List, [], ◌∷◌, ◌++◌, length, take, drop, ap, sym}
use Rattle.std.proofs.Common.{subst, ◌∙◌}
use Rattle.std.proofs.Common.{refl, append_assoc, arith, ◌-◌}
use Rattle.std.proofs.lemmas.List.{append-nil, length-append}
use Rattle.std.proofs.Math.Seq.{drop-append_seam, take-length}
use Rattle.packet_record.specs.declared.packet.Timed.{Timed}
use Rattle.packet_record.specs.declared.item.Item.{Item}
use Rattle.packet_record.specs.declared.item.Item.TheVariants.{Packet, Mark, End, Broken}
use Rattle.packet_record.specs.declared.item.FlowEnd.{FlowEnd}
use Rattle.packet_record.specs.declared.item.FlowEnd.TheVariants.{Open}
use Rattle.packet_record.specs.Streams.{Stream, stream, after, after_all, AllFollow, MayFollow, IsFrom}
use Rattle.packet_record.specs.Moments.{AreFrom, AreUpTo, Rise}
use Rattle.packet_record.proofs.MomentsLemmas.{from_lower, from-append, up_to_back, rise_rest}
use Rattle.shell_state.specs.declared.taken.Taken.{Taken}
use Rattle.shell_state.specs.declared.taken.Taken.TheVariants.{Item as Gives, Again, NotYet}
use Rattle.shell_state.specs.States.{State}
use Rattle.shell_state.specs.Steps.{after_take, answer_of, answer_after, burns, with_burnt, stream_after}
use Rattle.shell_state.specs.inside.Fed.{AnswerFollows}
use Rattle.shell_state.specs.Standing.{IsHonest, Stands}
use Rattle.shell_state.proofs.Answering.{answer_follows}
use Rattle.shell_state.proofs.Keeping.{burnt_keeps, burns-le}
use Rattle.live_relay.specs.Lines.{IsFront}
use Rattle.live_relay.specs.inside.Meeting.{Grows, packet_items}

pub grown_not : (f : Stream) → f.end ≡ Open → Grows f f
grown_not f going = record {
  going = going;
  more = [];
  packets = sym (append-nil f.packets);
  later = tt;
  bound = omega arith;
}

pub grows_on : (f g k : Stream) → Grows f g → Grows g k → Grows f k
grows_on f g k a b = record {
  going = a.going;
  more = a.more ++ b.more;
  packets = b.packets ∙ ap (λ (l : List Timed). l ++ b.more) a.packets ∙ append_assoc f.packets a.more b.more;
  later = from-append f.bound a.more b.more a.later (from_lower f.bound g.bound b.more a.bound b.later);
  bound = omega (arith, a.bound, b.bound);
}

pub front_of : (f g : Stream) → Grows f g → IsFront f.packets g.packets
front_of f g a = record { more = a.more; is = a.packets }

pub front_on : (xs ys zs : List Timed) → IsFront xs ys → IsFront ys zs → IsFront xs zs
front_on xs ys zs a b = record {
  more = a.more ++ b.more;
  is = b.is ∙ ap (λ (l : List Timed). l ++ b.more) a.is ∙ append_assoc xs a.more b.more;
}

pub front_same : (xs : List Timed) → IsFront xs xs
front_same xs = record { more = []; is = sym (append-nil xs) }

-- an item that follows lets a stream go on
pub grows_item : (f : Stream) (x : Item) → f.end ≡ Open → IsFrom f.bound x → Grows f (after f x)
grows_item f (Packet t) going from =
    record { going = going; more = t ∷ []; packets = refl; later = (from, tt); bound = from }
grows_item f (Mark m) going from =
    record { going = going; more = []; packets = sym (append-nil f.packets); later = tt; bound = from }
grows_item f End going from =
    record { going = going; more = []; packets = sym (append-nil f.packets); later = tt; bound = omega arith }
grows_item f Broken going from =
    record { going = going; more = []; packets = sym (append-nil f.packets); later = tt; bound = omega arith }

grows_answer : (f : Stream) (a : Taken) → f.end ≡ Open → AnswerFollows f.bound a → Grows f (stream_after f a)
grows_answer f (Gives x) going follows = grows_item f x going follows
grows_answer f (Again n) going follows = grown_not f going
grows_answer f (NotYet m) going follows = grown_not f going

take_follows : (s : State) (n : ℕ) → Stands s → s.taken.end ≡ Open → s.broken ≡ false
    → AnswerFollows s.taken.bound (answer_of s n)
unfolding answer_of
take_follows s n st going whole =
    subst (λ (b : Bool). AnswerFollows s.taken.bound
    (cond b (Gives Broken) (answer_after (with_burnt s (burns s n)) (burns s n) n))) (sym whole)
    (answer_follows (with_burnt s (burns s n)) (burns s n) n (burnt_keeps s (burns s n) st going (burns-le s n)))

-- and so does a take
pub grows_taken : (s : State) (n : ℕ) → Stands s → s.taken.end ≡ Open → s.broken ≡ false
    → Grows s.taken (after_take s n).taken
unfolding after_take
grows_taken s n st going whole = grows_answer s.taken (answer_of s n) going (take_follows s n st going whole)

-- the packets that a stream got as it went on
pub fed_packets : (f : Stream) (ts : List Timed) → (after_all f (packet_items ts)).packets ≡ f.packets ++ ts
fed_packets f [] = sym (append-nil f.packets)
fed_packets f (t ∷ ts) = fed_packets (after f (Packet t)) ts ∙ append_assoc f.packets (t ∷ []) ts

pub fed_end : (f : Stream) (ts : List Timed) → (after_all f (packet_items ts)).end ≡ f.end
fed_end f [] = refl
fed_end f (t ∷ ts) = fed_end (after f (Packet t)) ts

pub fed_bound : (f : Stream) (n : ℕ) (ts : List Timed) → f.bound ≤ n → AreUpTo n ts
    → (after_all f (packet_items ts)).bound ≤ n
fed_bound f n [] le up_to = le
fed_bound f n (t ∷ ts) le up_to = fed_bound (after f (Packet t)) n ts up_to.0 up_to.1

pub all_follow : (h : ℕ) (f : Stream) (ts : List Timed) → f.end ≡ Open → AreFrom f.bound ts → Rise ts → AreUpTo h ts
    → AllFollow h f (packet_items ts)
all_follow h f [] going from rises within = tt
all_follow h f (t ∷ ts) going from rises within = (
  (going, from.0),
  within.0,
  all_follow h (after f (Packet t)) ts going rises.0 rises.1 within.1,
)

-- what a stream got as it went on may be fed to one that has come as far
pub more_follow : (h : ℕ) (f g : Stream) (a : Grows f g) → IsHonest h g → AllFollow h f (packet_items a.more)
more_follow h f g a honest = all_follow h f a.more a.going a.later
    (rise_rest f.packets a.more (subst Rise a.packets honest.rises))
    (up_to_back h f.packets a.more (subst (AreUpTo h) a.packets honest.within))

pub bounded_more : (h : ℕ) (f g : Stream) (a : Grows f g) → IsHonest h g → AreUpTo g.bound a.more
bounded_more h f g a honest = up_to_back g.bound f.packets a.more (subst (AreUpTo g.bound) a.packets honest.bounded)

pub stream_is : (f g : Stream) → f.packets ≡ g.packets → f.bound ≡ g.bound → f.end ≡ g.end → f ≡ g
stream_is f g p b e = ap (λ (l : List Timed). stream l f.bound f.end) p ∙ ap (λ (n : ℕ). stream g.packets n f.end) b
    ∙ ap (λ (x : FlowEnd). stream g.packets g.bound x) e

-- what of one stream isn't in another that it has gone on from
pub rest_is : (f g : Stream) (a : Grows f g) (all fed : List Timed) → all ≡ g.packets → fed ≡ f.packets
    → take (length all - length fed) (drop (length fed) all) ≡ a.more
rest_is f g a all fed e e' =
    let is : all ≡ fed ++ a.more = e ∙ a.packets ∙ ap (λ (l : List Timed). l ++ a.more) (sym e') in
    let dropped : drop (length fed) all ≡ a.more = ap (drop (length fed)) is ∙ drop-append_seam fed a.more in
    let long = ap length is ∙ length-append fed a.more in
    let left : length all - length fed ≡ length a.more = omega arith in
    ap (λ n. take n (drop (length fed) all)) left ∙ ap (take (length a.more)) dropped ∙ take-length a.more

-- after that and a mark, the other has come as far
pub caught : (h : ℕ) (f g : Stream) (a : Grows f g) (rest : List Timed) → rest ≡ a.more
    → after (after_all f (packet_items rest)) (Mark g.bound) ≡ stream g.packets g.bound Open
caught h f g a rest e =
    let fed = after_all f (packet_items rest) in
    stream_is (stream fed.packets g.bound fed.end) (stream g.packets g.bound Open)
    (fed_packets f rest ∙ ap (λ (l : List Timed). f.packets ++ l) e ∙ sym a.packets) refl
    (fed_end f rest ∙ a.going)

pub mark_follows : (h : ℕ) (f g : Stream) (a : Grows f g) (rest : List Timed) → rest ≡ a.more → IsHonest h g
    → MayFollow (after_all f (packet_items rest)) (Mark g.bound)
mark_follows h f g a rest e honest = (
  fed_end f rest ∙ a.going,
  fed_bound f g.bound rest a.bound (subst (AreUpTo g.bound) (sym e) (bounded_more h f g a honest)),
)

pub rest_follows : (h : ℕ) (f g : Stream) (a : Grows f g) (rest : List Timed) → rest ≡ a.more → IsHonest h g
    → AllFollow h f (packet_items rest)
rest_follows h f g a rest e honest = subst (λ (l : List Timed). AllFollow h f (packet_items l)) (sym e)
    (more_follow h f g a honest)
