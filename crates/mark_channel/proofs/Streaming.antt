-- Streams that grow item by item.
use Rattle.std.proofs.Common.{◌≡◌, ◌≢◌, ◌≤◌, ◌⊎◌, inl, inr, ℕ, List, [], ◌∷◌, ◌++◌, sym, refl, ap, ◌∙◌, subst}
use Rattle.std.proofs.Common.{append_assoc, arith}
use Rattle.std.proofs.lemmas.List.{append-nil}
use mathlib.Core.List.{IsPrefix}
use Rattle.packet_record.specs.declared.item.Item.{Item}
use Rattle.packet_record.specs.declared.item.Item.TheVariants.{Packet, Mark, End, Broken}
use Rattle.packet_record.specs.declared.item.FlowEnd.TheVariants.{Open}
use Rattle.packet_record.specs.Streams.{Stream, after, after_all, MayFollow, IsUpTo, AllFollow, IsStreamPrefix}
use Rattle.mark_channel.specs.inside.Carrying.{carrying, carrying_all}
use Rattle.mark_channel.specs.Carried.{Carried}

pub carrying_all-snoc : (c : Carried) (xs : List Item) (x : Item)
    → carrying_all c (xs ++ x ∷ []) ≡ carrying (carrying_all c xs) x
carrying_all-snoc c [] x = refl
carrying_all-snoc c (y ∷ ys) x = carrying_all-snoc (carrying c y) ys x

pub carrying_all-flow : (c : Carried) (xs : List Item) → (carrying_all c xs).flow ≡ after_all c.flow xs
carrying_all-flow c [] = refl
carrying_all-flow c (y ∷ ys) = carrying_all-flow (carrying c y) ys

carrying_all-items : (c : Carried) (xs : List Item) → (carrying_all c xs).items ≡ c.items ++ xs
carrying_all-items c [] = sym (append-nil c.items)
carrying_all-items c (y ∷ ys) = carrying_all-items (carrying c y) ys ∙ append_assoc c.items (y ∷ []) ys

pub AllFollow-snoc : (h : ℕ) (f : Stream) (xs : List Item) (x : Item) → AllFollow h f xs
    → MayFollow (after_all f xs) x → IsUpTo h x → AllFollow h f (xs ++ x ∷ [])
AllFollow-snoc h f [] x all may upto = (may, upto, tt)
AllFollow-snoc h f (y ∷ ys) x all may upto = (all.0, all.1, AllFollow-snoc h (after f y) ys x all.2 may upto)

step_prefix : (f : Stream) (x : Item) → MayFollow f x → IsPrefix f.packets (after f x).packets
    × (f.bound ≤ (after f x).bound)
step_prefix f (Packet t) may = ((t ∷ [], refl), may.1)
step_prefix f (Mark m) may = (([], append-nil f.packets), may.1)
step_prefix f End may = (([], append-nil f.packets), omega arith)
step_prefix f Broken may = (([], append-nil f.packets), omega arith)

then_prefix : (f g k : Stream) → IsPrefix f.packets g.packets × (f.bound ≤ g.bound) → IsPrefix g.packets k.packets
    × (g.bound ≤ k.bound) → IsPrefix f.packets k.packets × (f.bound ≤ k.bound)
then_prefix f g k p q = (
  (
    p.0.0 ++ q.0.0,
    sym (append_assoc f.packets p.0.0 q.0.0)
        ∙ (ap (λ l. l ++ q.0.0) p.0.1 ∙ q.0.1),
  ),
  omega arith,
)

grows : (h : ℕ) (f : Stream) (xs : List Item) → AllFollow h f xs → IsPrefix f.packets (after_all f xs).packets
    × (f.bound ≤ (after_all f xs).bound)
grows h f [] all = (([], append-nil f.packets), omega arith)
grows h f (x ∷ xs) all = then_prefix f (after f x) (after_all (after f x) xs) (step_prefix f x all.0)
    (grows h (after f x) xs all.2)

ends : (h : ℕ) (f : Stream) (xs : List Item) → AllFollow h f xs → (f.end ≡ Open) ⊎ (f ≡ after_all f xs)
ends h f [] all = inr refl
ends h f (x ∷ xs) all = inl all.0.0

none_left : (h : ℕ) (f : Stream) (xs : List Item) → AllFollow h f xs → f.end ≢ Open → xs ≡ []
none_left h f [] all over = refl
none_left h f (x ∷ xs) all over = absurd (over all.0.0)

-- what may follow a stream makes it longer, and nothing follows one that has ended
pub begins : (h : ℕ) (f g : Carried) (xs : List Item) → g ≡ carrying_all f xs → AllFollow h f.flow xs
    → IsStreamPrefix f.flow g.flow
begins h f g xs is all =
    subst (IsStreamPrefix f.flow) (sym (ap (λ (c : Carried). c.flow) is ∙ carrying_all-flow f xs))
    (let p = grows h f.flow xs all in (p.0, p.1, ends h f.flow xs all))

pub items_begin : (f g : Carried) (xs : List Item) → g ≡ carrying_all f xs → IsPrefix f.items g.items
items_begin f g xs is = (xs, sym (ap (λ (c : Carried). c.items) is ∙ carrying_all-items f xs))

pub whole : (h : ℕ) (f g : Carried) (xs : List Item) → g ≡ carrying_all f xs → AllFollow h f.flow xs
    → f.flow.end ≢ Open → f ≡ g
whole h f g xs is all over = sym (is ∙ ap (carrying_all f) (none_left h f.flow xs all over))
