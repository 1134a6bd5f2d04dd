-- Each step of the channel keeps its rule.
use Rattle.std.proofs.Common.{◌≡◌, ◌≢◌, ℕ, zero, suc, true, false, true≢false, List, [], ◌∷◌, ◌++◌, length, set, sym}
use Rattle.std.proofs.Common.{refl, ap, ◌∙◌, subst, ⊎_elim}
use mathlib.Core.Option.{some, some-ne-none}
use lib.ListN.{get_elem?}
use Rattle.crossbeam_channel.specs.Fifo.{Pushes, Pops, Forks, Merges, Learns}
use Rattle.atomic_table.proofs.Lists.{at_set, at_snoc}
use Rattle.packet_record.specs.declared.item.Item.{Item}
use Rattle.packet_record.specs.Streams.{after_all, MayFollow, IsUpTo, AllFollow}
use Rattle.mark_channel.specs.inside.Carrying.{nothing, carrying, carrying_all}
use Rattle.mark_channel.specs.Carried.{Carried}
use Rattle.mark_channel.specs.declared.rule.View.{View}
use Rattle.mark_channel.specs.inside.Rules.{known, opening, sending, getting, settling, spent, Fits, FitsWriter}
use Rattle.mark_channel.specs.inside.Rules.{FitsFresh, Kept, Sends, Gets, Settles}
use Rattle.mark_channel.proofs.Streaming.{carrying_all-snoc, carrying_all-flow, AllFollow-snoc}

at_end : (l : List View) (a b : View) (j : ℕ) → get_elem? l j ≢ some b → get_elem? (l ++ a ∷ []) j ≡ some b
    → j ≡ length l
at_end [] a b zero n e = refl
at_end [] a b (suc j) n e = absurd (some-ne-none b (sym e))
at_end (x ∷ xs) a b zero n e = absurd (n e)
at_end (x ∷ xs) a b (suc j) n e = ap suc (at_end xs a b j n e)

abbrev All : (ℕ → View → Type 0) → List View → Type 0
All F views = (port : ℕ) (v : View) → get_elem? views port ≡ some v → F port v

all_set : (F : ℕ → View → Type 0) (views : List View) (port : ℕ) (w : View) → F port w
    → ((j : ℕ) (u : View) → j ≢ port → get_elem? views j ≡ some u → F j u) → All F (set views port w)
all_set F views port w mine others j u e =
    ⊎_elim (λ (x : (j ≡ port) × (w ≡ u)). subst (λ (y : ℕ × View). F y.0 y.1) (λ i. (sym x.0 i, x.1 i)) mine)
    (λ (x : (j ≢ port) × (get_elem? views j ≡ some u)). others j u x.0 x.1) (at_set views port j w u e)

never : {A : Type 0} → false ≡ true → A
never p = absurd (true≢false (sym p))

pub opens : Kept [] (opening ∷ [])
opens = record {
  horizon = 0;
  writer = 0;
  reader = 0;
  sent = nothing;
  got = nothing;
  whole = refl;
  honest = tt;
  fits = all_set (Fits 0 0 0 nothing nothing []) (opening ∷ []) 0 opening (
    (λ _. (refl, refl, refl)),
    (λ _. (refl, refl, refl)),
    λ _. (refl, refl),
  )
      (λ j u other e. absurd (other (at_end [] _ u j (λ x. some-ne-none u (sym x)) e)));
}

pub sends : (n port : ℕ) (v : View) (x : Item) → v.sends ≡ true → v.fresh ≡ false → MayFollow v.sent.flow x
    → IsUpTo v.horizon x → Pushes Kept n port v x (Sends v x)
sends n port v x may old follows upto items views _ h at =
    let w : View = known v.fresh v.sends v.gets v.horizon (carrying v.sent x) v.got in
    let mine = h.fits port v at in
    let is = mine.0 may in
    let s : Carried = carrying h.sent x in
    let W : Carried → ℕ → Type 0 = λ f k. MayFollow f.flow x × IsUpTo k x in
    let fine : W h.sent h.horizon = subst (λ (y : Carried × ℕ). W y.0 y.1) (λ i. (is.1 i, is.2 i)) (follows, upto) in
    let fine' : MayFollow (after_all h.got.flow items) x =
    subst (λ f. MayFollow f x) (carrying_all-flow h.got items)
    (subst (λ (f : Carried). MayFollow f.flow x) h.whole fine.0) in (
      w,
      record {
        horizon = h.horizon;
        writer = h.writer;
        reader = h.reader;
        sent = s;
        got = h.got;
        whole = ap (λ f. carrying f x) h.whole ∙ sym (carrying_all-snoc h.got items x);
        honest = AllFollow-snoc h.horizon h.got.flow items x h.honest fine' fine.1;
        fits = all_set (Fits h.horizon h.writer h.reader s h.got (items ++ x ∷ [])) views port w
            ((λ _. (is.0, ap (λ f. carrying f x) is.1, is.2)), mine.1, λ p. never (sym old ∙ p))
            (λ j u other e. let theirs = h.fits j u e in (
              (λ p. absurd (other ((theirs.0 p).0 ∙ sym is.0))),
              theirs.1,
              λ p. absurd (other ((theirs.2 p).0 ∙ sym is.0)),
            ));
      },
      refl,
    )

pub gets : (port : ℕ) (v : View) → v.gets ≡ true → v.fresh ≡ false → Pops Kept port v (Gets v)
gets port v may old x items views h at =
    let w : View = known v.fresh v.sends v.gets v.horizon v.sent (carrying v.got x) in
    let mine = h.fits port v at in
    let is = mine.1 may in
    let g : Carried = carrying h.got x in
    let W : Carried → ℕ → Type 0 = λ f k. MayFollow f.flow x × IsUpTo k x in
    let fine : W v.got v.horizon = subst (λ (y : Carried × ℕ). W y.0 y.1) (λ i. (sym is.1 i, sym is.2 i))
    (h.honest.0, h.honest.1) in (
      w,
      record {
        horizon = h.horizon;
        writer = h.writer;
        reader = h.reader;
        sent = h.sent;
        got = g;
        whole = h.whole;
        honest = h.honest.2;
        fits = all_set (Fits h.horizon h.writer h.reader h.sent g items) views port w
            (mine.0, (λ _. (is.0, ap (λ f. carrying f x) is.1, is.2)), λ p. never (sym old ∙ p))
            (λ j u other e. let theirs = h.fits j u e in (
              theirs.0,
              (λ p. absurd (other ((theirs.1 p).0 ∙ sym is.0))),
              λ p. let none : x ∷ items ≡ [] = (theirs.2 p).1 in (cc),
            ));
      },
      (refl, fine.0, fine.1),
    )

pub forks : (port : ℕ) (v : View) (horizon : ℕ) → v ≡ opening
    → Forks Kept port v (sending horizon nothing) (getting horizon nothing)
forks port v horizon is items views h at =
    let l : View = sending horizon nothing in
    let r : View = getting horizon nothing in
    let mine = h.fits port v at in
    let writes = mine.0 (ap (λ (y : View). y.sends) is) in
    let reads = mine.1 (ap (λ (y : View). y.gets) is) in
    let none = (mine.2 (ap (λ (y : View). y.fresh) is)).1 in
    let vs : List View = set views port l in
    let Old : ℕ → View → Type 0 = λ j u. FitsWriter horizon h.writer nothing j u × (u.gets ≢ true)
    × FitsFresh h.writer items j u in
    let old : All Old vs = all_set Old views port l ((λ _. (writes.0, refl, refl)), (λ p. never p), λ p. never p)
    (λ j u other e. let theirs = h.fits j u e in (
      (λ p. absurd (other ((theirs.0 p).0 ∙ sym writes.0))),
      (λ p. other ((theirs.1 p).0 ∙ sym reads.0)),
      theirs.2,
    )) in
    let empty : (f : Carried) → f ≡ carrying_all f items = λ f. ap (carrying_all f) (sym none) in record {
      horizon = horizon;
      writer = h.writer;
      reader = length vs;
      sent = nothing;
      got = nothing;
      whole = empty nothing;
      honest = subst (AllFollow horizon nothing.flow) (sym none) tt;
      fits = λ j u e. ⊎_elim (λ x. let o = old j u x in (o.0, (λ p. absurd (o.1 p)), o.2))
          (λ (same : r ≡ u). (
            (λ p. never (ap (λ (y : View). y.sends) same ∙ p)),
            (λ p. (
              at_end vs r u j (λ x. (old j u x).1 p) e,
              ap (λ (y : View). y.got) (sym same),
              ap (λ (y : View). y.horizon) (sym same),
            )),
            λ p. never (ap (λ (y : View). y.fresh) same ∙ p),
          )) (at_snoc vs r u j e);
    }

pub merges : (port : ℕ) (v : View) (other : ℕ) (u : View) → v.sends ≡ true → u.gets ≡ true
    → Merges Kept port v other u (settling v.horizon v.sent u.got) spent
merges port v other u a b items views h at two at' =
    let both : View = settling v.horizon v.sent u.got in
    let mine = (h.fits port v at).0 a in
    let vs : List View = set views port both in
    let was : get_elem? views other ≡ some u = ⊎_elim (λ x. absurd (two x.0)) (λ x. x.1)
    (at_set views port other both u at') in
    let theirs = (h.fits other u was).1 b in
    let F : ℕ → View → Type 0 = Fits h.horizon h.writer port h.sent h.got items in
    let Now : ℕ → View → Type 0 = λ j y. j ≢ other → F j y in
    let now : All Now vs = all_set Now views port both
    (λ _. ((λ _. mine), (λ _. (refl, theirs.1, mine.2)), λ p. never p))
    (λ j y _ e apart. let its = h.fits j y e in (its.0, (λ p. absurd (apart ((its.1 p).0 ∙ sym theirs.0))), its.2))
    in record {
      horizon = h.horizon;
      writer = h.writer;
      reader = port;
      sent = h.sent;
      got = h.got;
      whole = h.whole;
      honest = h.honest;
      fits = all_set F vs other spent ((λ p. never p), (λ p. never p), λ p. never p) (λ j y apart e. now j y e apart);
    }

pub totals : (port : ℕ) (v : View) → v.sends ≡ true → v.gets ≡ true → Learns Kept port v (Settles v)
totals port v a b items views h at =
    let mine = h.fits port v at in
    let s = mine.0 a in
    let g = mine.1 b in
    subst (λ (y : Carried × (Carried × ℕ)). (y.0 ≡ carrying_all y.1.0 items) × AllFollow y.1.1 y.1.0.flow items)
    (λ i. (sym s.1 i, (sym g.1 i, sym s.2 i))) (h.whole, h.honest)
