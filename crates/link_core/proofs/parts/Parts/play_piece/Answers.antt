use Rattle.std.proofs.Common.{◌≡◌, ◌+◌, ◌-◌, ◌++◌, [], List, length, drop, take, refl, ap, sym, subst, arith, ◌∙◌}
use Rattle.std.proofs.Math.Seq.{take-append_seam, take-append-add, drop-append-add}
use Rattle.std.proofs.lemmas.List.{append-nil, length-append}
use Rattle.packet_record.specs.declared.packet.Timed.{Timed}
use Rattle.shell_log.specs.declared.entry.Entry.{Entry}
use Rattle.link_core.specs.Promises.{count_to}
use Rattle.link_core.specs.views.Arriving.{Arriving}
use Rattle.link_core.specs.views.Span.{span_opps}
use Rattle.link_core.specs.inside.Play.{IsPlayable}
use Rattle.link_core.specs.inside.Sound.{IsSoundAfter}
use Rattle.link_core.proofs.InPlaceLemmas.{latest_in_time, playable_piece, playable_rest}
use Rattle.link_core.proofs.parts.Parts.play_piece.Goals as goal

pub count_from-due-requires : goal.count_from-due-requires
count_from-due-requires g c =
    let now = c.args.self.now in
    let os = span_opps now.opportunities in
    let h = now.opportunities.horizon in
    let coming = c.args.places.now.coming in
    let piece = c.next_piece-piece.result.now in
    let rest = drop (length piece) coming in
    let last = c.args._last in
    let come = g.gone.come in
    let some = c.next_piece-piece.ensures.some c.requires.1 in
    let p : IsPlayable os h last now.burnt come (piece ++ rest) =
    subst (λ (ts : List Timed). IsPlayable os h last now.burnt come ts) c.next_piece-piece.ensures.front c.requires.0.playable
    in
    latest_in_time os h last now.burnt come piece rest c.index-piece-count.result (length piece - 1) p
    c.index-piece-count.is (omega arith)

pub finish-requires : goal.finish-requires
finish-requires g c =
    let now = c.args.self.now in
    let was = c.requires.0 in
    let os = span_opps now.opportunities in
    let h = now.opportunities.horizon in
    let coming = c.args.places.now.coming in
    let piece = c.next_piece-piece.result.now in
    let rest = drop (length piece) coming in
    let last = c.args._last in
    let come = g.gone.come in
    let some = c.next_piece-piece.ensures.some c.requires.1 in
    let p : IsPlayable os h last now.burnt come (piece ++ rest) =
    subst (λ (ts : List Timed). IsPlayable os h last now.burnt come ts) c.next_piece-piece.ensures.front was.playable
    in
    let latest = c.index-piece-count.result in
    let few = c.count_from-due.ensures.within in
    let due = c.count_from-due.ensures.count in
    let same = c.count_from-due.ensures.same in
    let here : come ++ c.extend.new.self.come ≡ come ++ now.arrived.come = ap (λ ts. come ++ ts)
    c.extend.ensures.come in
    let all : come ++ c.extend.new.self.come ≡ come = here ∙ ap (λ ts. come ++ ts) was.none_come ∙ append-nil come in
    let now_coming : c.extend.new.self.coming ≡ piece = c.in_ok-extend.ensures.coming
    ∙ ap (λ ts. ts ++ piece) was.none_coming in (
      rw (same, here) was.sound,
      rw (same, all, now_coming, due) (playable_piece os h last now.burnt come piece rest latest (length piece - 1) p
          c.index-piece-count.is (omega arith) (omega arith)),
    )

pub returns-clause-between : goal.returns-clause-between
returns-clause-between g c =
    let now = c.args.self.now in
    let was = c.requires.0 in
    let os = span_opps now.opportunities in
    let h = now.opportunities.horizon in
    let coming = c.args.places.now.coming in
    let piece = c.next_piece-piece.result.now in
    let rest = drop (length piece) coming in
    let last = c.args._last in
    let come = g.gone.come in
    let some = c.next_piece-piece.ensures.some c.requires.1 in
    let p : IsPlayable os h last now.burnt come (piece ++ rest) =
    subst (λ (ts : List Timed). IsPlayable os h last now.burnt come ts) c.next_piece-piece.ensures.front was.playable
    in
    let latest = c.index-piece-count.result in
    let extended = c.extend.new.self in
    let ended = c.finish.new.self in
    let put = c.put_departed.new.self in
    let places = c.put_departed.new.places in
    let all_in : ended.arrived.coming ≡ [] = c.in_ok-finish.ensures.played.all_in in
    let come_all : come ++ ended.arrived.come ≡ come ++ piece =
    sym (append-nil (come ++ ended.arrived.come))
    ∙ ap (λ (ts : List Timed). (come ++ ended.arrived.come) ++ ts) (sym all_in)
    ∙ c.finish.ensures.arrivals
    ∙ ap (λ (ts : List Timed). (come ++ ts) ++ extended.coming) (c.extend.ensures.come ∙ was.none_come)
    ∙ ap (λ (ts : List Timed). (come ++ []) ++ ts)
    (c.in_ok-extend.ensures.coming ∙ ap (λ (ts : List Timed). ts ++ piece) was.none_coming)
    ∙ ap (λ (ts : List Timed). ts ++ piece) (append-nil come)
    in
    let number : places.entered ≡ length come + length piece = c.put_departed.ensures.entered ∙ c.enter.ensures.entered
    ∙ ap (λ n. n + length piece) (sym was.entered) in
    let piece_is : take (length piece) coming ≡ piece = ap (take (length piece)) c.next_piece-piece.ensures.front
    ∙ take-append_seam piece rest in
    let come_is : take places.entered (come ++ coming) ≡ come ++ piece = ap (λ n. take n (come ++ coming)) number
    ∙ take-append-add come coming (length piece)
    ∙ ap (λ (ts : List Timed). come ++ ts) piece_is in
    let here : take places.entered (come ++ coming) ++ c.clear.new.self.come ≡ come ++ put.arrived.come =
    ap (λ (ts : List Timed). take places.entered (come ++ coming) ++ ts) c.clear.ensures.come
    ∙ append-nil (take places.entered (come ++ coming)) ∙ come_is ∙ sym come_all
    ∙ ap (λ (a : Arriving). come ++ a.come) (sym c.put_departed.ensures.arrived) in
    let unlogged : IsSoundAfter (record { come = come; departed = places.departed; log = [] }) put =
    subst (λ (es : List Entry). IsSoundAfter (record { come = come; departed = places.departed; log = es }) put)
    was.none_logged c.put_departed.ensures.sound
    in
    let opps_e = c.put_departed.ensures.opportunities ∙ c.finish.ensures.link.opportunities
    ∙ c.count_from-due.ensures.same in
    let burnt_e : put.burnt ≡ count_to os latest.moment = c.put_departed.ensures.burnt
    ∙ c.in_ok-finish.ensures.played.all_burnt ∙ c.count_from-due.ensures.count in
    let coming_e : places.coming ≡ rest = c.put_departed.ensures.coming ∙ c.enter.ensures.coming in
    let size = length-append come piece in
    record {
      sound = rw here unlogged;
      playable = rw (opps_e, burnt_e, come_is, coming_e)
          (playable_rest os h last now.burnt come piece rest latest (length piece - 1) p c.index-piece-count.is
          (omega arith));
      entered = ap length come_is ∙ size ∙ sym number;
      departed = refl;
      none_come = c.clear.ensures.come;
      none_coming = c.clear.ensures.coming;
      none_departed = c.put_departed.ensures.none;
      none_logged = refl;
    }

pub returns-clause-coming : goal.returns-clause-coming
returns-clause-coming g c =
    let come = g.gone.come in
    let coming = c.args.places.now.coming in
    let piece = c.next_piece-piece.result.now in
    let number = c.put_departed.ensures.entered ∙ c.enter.ensures.entered
    ∙ ap (λ n. n + length piece) (sym c.requires.0.entered) in
    c.put_departed.ensures.coming ∙ c.enter.ensures.coming
    ∙ sym (ap (λ n. drop n (come ++ coming)) number ∙ drop-append-add come coming (length piece))
