-- Lists that are put into the order of their moments.
use Rattle.std.proofs.Common.{◌≡◌, ℕ, ◌+◌, ◌<◌, ◌≤◌, Bool, true, false, cond, leb, List, [], ◌∷◌, ◌++◌, refl, ap, ◌∙◌}
use Rattle.std.proofs.Common.{arith}
use Rattle.std.proofs.lemmas.Bool.{le-leb, leb-false, leb-true, lt-leb}
use Rattle.sender_merge.specs.Merges.{put, by_moment}
use Rattle.sender_merge.specs.inside.RowMerges.{From, Sorted}

pub from_lower : {A : Type 0} (f : A → ℕ) (m n : ℕ) (xs : List A) → m ≤ n → From f n xs → From f m xs
from_lower f m n [] le h = tt
from_lower f m n (x ∷ xs) le h = ((let first = h.0 in omega arith), from_lower f m n xs le h.1)

pub from-append : {A : Type 0} (f : A → ℕ) (m : ℕ) (xs ys : List A) → From f m xs → From f m ys → From f m (xs ++ ys)
from-append f m [] ys h k = k
from-append f m (x ∷ xs) ys h k = (h.0, from-append f m xs ys h.1 k)

-- an entry is put in front of entries that aren't earlier
pub put_first : {A : Type 0} (f : A → ℕ) (x : A) (ys : List A) → From f (f x) ys → put f x ys ≡ x ∷ ys
put_first f x [] h = refl
put_first f x (y ∷ ys) h = ap (λ (b : Bool). cond b (x ∷ (y ∷ ys)) (y ∷ put f x ys)) (le-leb (f x) (f y) h.0)

-- an entry is put behind an earlier one
pub put_later : {A : Type 0} (f : A → ℕ) (x y : A) (ys : List A) → f y < f x → put f x (y ∷ ys) ≡ y ∷ put f x ys
put_later f x y ys lt = ap (λ (b : Bool). cond b (x ∷ (y ∷ ys)) (y ∷ put f x ys)) (lt-leb (f x) (f y) lt)

put_either : {A : Type 0} (f : A → ℕ) (m : ℕ) (b : Bool) (x y : A) (ys zs : List A) → m ≤ f x → From f m (y ∷ ys)
    → From f m zs → From f m (cond b (x ∷ (y ∷ ys)) (y ∷ zs))
put_either f m true x y ys zs le h k = (le, h)
put_either f m false x y ys zs le h k = (h.0, k)

put-from : {A : Type 0} (f : A → ℕ) (m : ℕ) (x : A) (ys : List A) → m ≤ f x → From f m ys → From f m (put f x ys)
put-from f m x [] le h = (le, tt)
put-from f m x (y ∷ ys) le h = put_either f m (leb (f x) (f y)) x y ys (put f x ys) le h (put-from f m x ys le h.1)

pub by_moment-from : {A : Type 0} (f : A → ℕ) (m : ℕ) (xs : List A) → From f m xs → From f m (by_moment f xs)
by_moment-from f m [] h = tt
by_moment-from f m (x ∷ xs) h = put-from f m x (by_moment f xs) h.0 (by_moment-from f m xs h.1)

-- an entry that no other is before is first
pub first : {A : Type 0} (f : A → ℕ) (x : A) (xs : List A) → From f (f x) xs → by_moment f (x ∷ xs) ≡ x ∷ by_moment f xs
first f x xs h = put_first f x (by_moment f xs) (by_moment-from f (f x) xs h)

-- an entry that is first stays first behind entries that are all later
pub behind : {A : Type 0} (f : A → ℕ) (x : A) (before xs ys : List A) → From f (f x + 1) before
    → by_moment f xs ≡ x ∷ by_moment f ys → by_moment f (before ++ xs) ≡ x ∷ by_moment f (before ++ ys)
behind f x [] xs ys h is = is
behind f x (b ∷ before) xs ys h is =
    ap (put f b) (behind f x before xs ys h.1 is)
    ∙ put_later f b x (by_moment f (before ++ ys)) (let later = h.0 in omega arith)

sorted_either : {A : Type 0} (f : A → ℕ) (b : Bool) (x y : A) (ys zs : List A) → leb (f x) (f y) ≡ b
    → Sorted f (y ∷ ys) → (f y ≤ f x → From f (f y) zs) → Sorted f zs → Sorted f (cond b (x ∷ (y ∷ ys)) (y ∷ zs))
sorted_either f true x y ys zs e h from sorted =
    let le : f x ≤ f y = leb-true (f x) (f y) e in ((le, from_lower f (f x) (f y) ys le h.0), h)
sorted_either f false x y ys zs e h from sorted =
    let lt : f y < f x = leb-false (f x) (f y) e in (from (omega arith), sorted)

put-sorted : {A : Type 0} (f : A → ℕ) (x : A) (ys : List A) → Sorted f ys → Sorted f (put f x ys)
put-sorted f x [] h = (tt, tt)
put-sorted f x (y ∷ ys) h = sorted_either f (leb (f x) (f y)) x y ys (put f x ys) refl h
    (λ le. put-from f (f y) x ys le h.0) (put-sorted f x ys h.1)

pub by_moment-sorted : {A : Type 0} (f : A → ℕ) (xs : List A) → Sorted f (by_moment f xs)
by_moment-sorted f [] = tt
by_moment-sorted f (x ∷ xs) = put-sorted f x (by_moment f xs) (by_moment-sorted f xs)

-- entries in order stay as they are
pub by_moment-same : {A : Type 0} (f : A → ℕ) (xs : List A) → Sorted f xs → by_moment f xs ≡ xs
by_moment-same f [] h = refl
by_moment-same {A = A} f (x ∷ xs) h = first f x xs h.0 ∙ ap (λ (l : List A). x ∷ l) (by_moment-same f xs h.1)

pub by_moment-behind : {A : Type 0} (f : A → ℕ) (xs ys : List A)
    → by_moment f (xs ++ by_moment f ys) ≡ by_moment f (xs ++ ys)
by_moment-behind f [] ys = by_moment-same f (by_moment f ys) (by_moment-sorted f ys)
by_moment-behind f (x ∷ xs) ys = ap (put f x) (by_moment-behind f xs ys)
