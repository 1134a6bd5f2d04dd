-- A link that goes over all its arrivals: what lets it go on, and what the log still gets.
use Rattle.std.proofs.Common.{◌≡◌, ℕ, ◌-◌, ◌<◌, ◌≤◌, ◌++◌, Bool, true, List, [], ◌∷◌, Option, length, take, drop}
use Rattle.std.proofs.Common.{reverse, arith, refl, ap, sym, subst, ◌∙◌}
use Rattle.std.proofs.lemmas.List.{append_assoc, append_cancel_left, length-append, take_at, drop_at}
use Rattle.packet_record.specs.declared.packet.Timed.{Timed}
use Rattle.packet_record.specs.Moments.{AreFrom, AreUpTo, Rise}
use Rattle.packet_record.proofs.MomentsLemmas.{rise_back, up_to_back}
use Rattle.packet_queue.specs.declared.spec.QueueSpec.{QueueSpec}
use Rattle.shell_log.specs.declared.entry.Entry.{Entry}
use Rattle.trace_reader.specs.declared.opportunity.Opportunity.{Opportunity}
use Rattle.trace_reader.specs.Orders.{Each, AreRising}
use Rattle.link_core.specs.Links.{link_out, link_log}
use Rattle.link_core.specs.Promises.{count_to, AreCovered}
use Rattle.link_core.specs.declared.parts.Parts.{Parts}
use Rattle.link_core.specs.inside.Written.{written}
use Rattle.link_core.specs.views.Span.{Span, span_opps}
use Rattle.link_core.specs.inside.Sound.{Sound, Gone, IsSoundAfter, keeping_arrivals}
use Rattle.link_core.specs.inside.Play.{IsInTime, IsPlayable, CanPlay, all_arrivals, work, without_last, gone_of}
use Rattle.link_core.specs.views.Play.{rest_from, rest_of}
use Rattle.link_core.proofs.OnlyLaws.{up_to_each}
use Rattle.link_core.proofs.SeenLemmas.{seen_out, seen_log}
use Rattle.link_core.proofs.FeedLemmas.{count_more}
use Rattle.link_core.proofs.LogSize.{more_log}
use Rattle.link_core.proofs.LinkLaws.{goes_on, rise_split, each_le, opps_le, early_burnt}

module _ (os : List Opportunity) (h last b : ℕ) (come coming : List Timed) (p : IsPlayable os h last b come coming)
  where
    module _ (t : Timed) (next : coming ≡ t ∷ drop 1 coming) where
      next_rises : Rise (come ++ t ∷ drop 1 coming)
      next_rises = subst (λ ts. Rise (come ++ ts)) next p.rises

      pub next_order : AreUpTo t.moment come
      next_order = up_to_each t.moment come (rise_split come t (drop 1 coming) next_rises)

      pub next_in_time : b ≤ count_to os t.moment
      next_in_time = subst (IsInTime os b) next p.in_time

      pub next_within : t.moment ≤ h
      next_within = (up_to_back h come (t ∷ drop 1 coming) (subst (λ ts. AreUpTo h (come ++ ts)) next p.within)).0

      same_arrivals : come ++ t ∷ [] ++ drop 1 coming ≡ come ++ coming
      same_arrivals = append_assoc come (t ∷ []) (drop 1 coming) ∙ ap (λ ts. come ++ ts) (sym next)

      -- the next is let in
      entered_arrivals : (come' coming' : List Timed) → come' ≡ come ++ t ∷ [] → coming' ≡ drop 1 coming → come'
          ++ coming' ≡ come ++ coming
      entered_arrivals come' coming' e f = ap (λ ts. ts ++ coming') e ∙ ap (λ ts. come ++ t ∷ [] ++ ts) f
          ∙ same_arrivals

      pub playable_entered : (come' coming' : List Timed) → come' ≡ come ++ t ∷ [] → coming' ≡ drop 1 coming
          → IsPlayable os h last (count_to os t.moment) come' coming'
      playable_entered come' coming' e f =
          let all = entered_arrivals come' coming' e f in
          let covered = subst (AreCovered os last) next p.covered in
          record {
            rises = subst Rise (sym all) p.rises;
            within = subst (AreUpTo h) (sym all) p.within;
            in_time = subst (IsInTime os (count_to os t.moment)) (sym f)
                (later (drop 1 coming) (rise_back come t (drop 1 coming) next_rises));
            covered = subst (AreCovered os last) (sym f) covered.1;
            few = p.few;
            so_far = covered.0;
          }
        where
          later : (ts : List Timed) → AreFrom t.moment ts → IsInTime os (count_to os t.moment) ts
          later [] a = tt
          later (u ∷ ts) a = count_more os t.moment u.moment a.0

-- what comes is not before what was let in
come_order : (come coming : List Timed) → Rise (come ++ coming)
    → Each (λ t. Each (λ u. u.moment ≤ t.moment) (reverse come)) coming
come_order come [] r = tt
come_order come (t ∷ ts) r = each_le come (t ∷ ts) t.moment (rise_split come t ts r)
    (omega arith, rise_back come t ts r)

come_burnt : (os : List Opportunity) (b : ℕ) (come coming : List Timed) → AreRising os → Rise (come ++ coming)
    → IsInTime os b coming
    → Each (λ t. Each (λ p. p.moment ≤ t.moment) (reverse (take b os))) coming
come_burnt os b come [] r s i = tt
come_burnt os b come (t ∷ ts) r s i = opps_le (take b os) (t ∷ ts) t.moment (early_burnt os b t.moment r i)
    (omega arith, rise_back come t ts s)

-- what was let go, what is in hand and what is still to come are the whole log
whole_is : (q : QueueSpec) (os : List Opportunity) (h last b : ℕ) (come coming : List Timed) (packet : Option Timed)
    (used : ℕ) (queue departed lost : List Timed) (front es : List Entry)
    → Sound q os b come packet used queue departed lost true (front ++ es) → IsPlayable os h last b come coming
    → front ++ (es ++ rest_from q os last b come coming) ≡ link_log q (take last os) (come ++ coming)
whole_is q os h last b come coming packet used queue departed lost front es s p =
    let past = link_log q (take b os) come in
    let rest = rest_from q os last b come coming in
    let g = (goes_on q os 0 b last come coming s.order p.so_far p.rises s.later (come_order come coming p.rises)
    (come_burnt os b come coming s.order p.rises p.in_time)).log in
    let was : front ++ es ≡ past = seen_log q os b come packet used queue departed lost true (front ++ es) s in
    let rest_is : rest ≡ g.more = ap (λ (l : List Entry). drop (length past) l) g.is
    ∙ drop_at past g.more (length past) refl in
    sym (append_assoc front es rest) ∙ ap (λ (l : List Entry). l ++ rest) was
    ∙ ap (λ (l : List Entry). past ++ l) rest_is ∙ sym g.is

all_is_of : (gone : Gone) (last : ℕ) (c : Parts) → IsSoundAfter (keeping_arrivals gone) c → c.log.kept ≡ true
    → CanPlay (keeping_arrivals gone) last c
    → gone.log ++ (c.log.entries ++ rest_of last c)
    ≡ link_log c.buffer.queue.spec (take last (span_opps c.opportunities)) (all_arrivals (keeping_arrivals gone) c)
all_is_of gone last c s kept p =
    let Now : Bool → Type 0 = λ k.
    Sound c.buffer.queue.spec (span_opps c.opportunities) c.burnt c.arrived.come c.buffer.packet c.buffer.used
    c.buffer.queue.packets (gone.departed ++ c.departed.items) c.buffer.queue.lost k
    (gone.log ++ c.log.entries)
    in
    whole_is _ _ _ last _ _ _ _ _ _ _ _ gone.log c.log.entries (subst Now kept s) p

front_is : {X : Type 0} (xs last all : List X) → xs ++ last ≡ all → without_last last all ≡ xs
front_is xs last all e =
    let n = length-append xs last in
    let size : length (xs ++ last) - length last ≡ length xs = omega arith in
    ap (λ l. take (length l - length last) l) (sym e) ∙ ap (λ k. take k (xs ++ last)) size
    ∙ take_at xs last (length xs) refl

module _ (gone : Gone) (c : Parts) (s : IsSoundAfter (keeping_arrivals gone) c) (kept : c.log.kept ≡ true) where
  -- the log goes on from what is in hand
  pub same_rest : (last : ℕ) (c' : Parts) → IsSoundAfter (keeping_arrivals gone) c' → c'.log.kept ≡ true
      → CanPlay (keeping_arrivals gone) last c → CanPlay (keeping_arrivals gone) last c'
      → c'.opportunities ≡ c.opportunities
      → c'.buffer.queue.spec ≡ c.buffer.queue.spec
      → all_arrivals (keeping_arrivals gone) c' ≡ all_arrivals (keeping_arrivals gone) c
      → c'.log.entries ++ rest_of last c' ≡ c.log.entries ++ rest_of last c
  same_rest last c' s' kept' p p' opps_e spec_e all_e =
      append_cancel_left gone.log (c'.log.entries ++ rest_of last c') (c.log.entries ++ rest_of last c)
      (all_is_of gone last c' s' kept' p'
      ∙ ap (λ q. link_log q (take last (span_opps c'.opportunities)) (all_arrivals (keeping_arrivals gone) c')) spec_e
      ∙ ap (λ (v : Span). link_log c.buffer.queue.spec (take last (span_opps v))
      (all_arrivals (keeping_arrivals gone) c')) opps_e
      ∙ ap (λ (ts : List Timed). link_log c.buffer.queue.spec (take last (span_opps c.opportunities)) ts) all_e
      ∙ sym (all_is_of gone last c s kept p))

  -- something is to come of the log where something is left to do
  pub rest_some : (last : ℕ) → CanPlay (keeping_arrivals gone) last c → 0 < work last c → 0 < length (rest_of last c)
  rest_some last p more =
      let os = span_opps c.opportunities in
      let past = link_log c.buffer.queue.spec (take c.burnt os) c.arrived.come in
      let was : gone.log ++ c.log.entries ≡ past = seen_log _ _ _ _ _ _ _ _ _ _ _ s ∙ ap (λ k. written k past) kept in
      more_log c.buffer.queue.spec os last c.burnt c.arrived.come c.arrived.coming (rest_of last c)
      (ap (λ (l : List Entry). l ++ rest_of last c) (sym was) ∙ append_assoc gone.log c.log.entries (rest_of last c)
      ∙ all_is_of gone last c s kept p)
      p.so_far p.few more

  -- what was let go can be told from the parts
  pub sound_gone : IsSoundAfter (gone_of c) c
  sound_gone =
      let os = take c.burnt (span_opps c.opportunities) in
      let left_e : gone.departed ++ c.departed.items ≡ link_out c.buffer.queue.spec os c.arrived.come =
      seen_out _ _ _ _ _ _ _ _ _ _ _ s in
      let log_e : gone.log ++ c.log.entries ≡ link_log c.buffer.queue.spec os c.arrived.come =
      seen_log _ _ _ _ _ _ _ _ _ _ _ s ∙ ap (λ k. written k (link_log c.buffer.queue.spec os c.arrived.come)) kept
      in
      let departed_is : gone.departed ≡ (gone_of c).departed = sym (front_is gone.departed c.departed.items _ left_e) in
      let log_is : gone.log ≡ (gone_of c).log = sym (front_is gone.log c.log.entries _ log_e) in
      let one : IsSoundAfter (record { come = []; departed = (gone_of c).departed; log = gone.log }) c =
      subst (λ (l : List Timed). IsSoundAfter (record { come = []; departed = l; log = gone.log }) c) departed_is s
      in
      subst (λ (l : List Entry). IsSoundAfter (record { come = []; departed = (gone_of c).departed; log = l }) c)
      log_is one
