-- Lists of packets in the order of their moments.
use Rattle.std.proofs.Common.{◌≡◌, ℕ, zero, suc, ◌<◌, ◌≤◌, List, [], ◌∷◌, ◌++◌, length, get_or, subst, sym, arith}
use Rattle.packet_record.specs.declared.packet.Timed.{Timed}
use Rattle.packet_record.specs.Moments.{AreFrom, AreUpTo, Rise}

pub from_lower : (m n : ℕ) (ts : List Timed) → m ≤ n → AreFrom n ts → AreFrom m ts
from_lower m n [] le h = tt
from_lower m n (t ∷ ts) le h = (omega (arith, h.0), from_lower m n ts le h.1)

pub up_to_higher : (m n : ℕ) (ts : List Timed) → m ≤ n → AreUpTo m ts → AreUpTo n ts
up_to_higher m n [] le h = tt
up_to_higher m n (t ∷ ts) le h = (omega (arith, h.0), up_to_higher m n ts le h.1)

pub from-append : (m : ℕ) (xs ys : List Timed) → AreFrom m xs → AreFrom m ys → AreFrom m (xs ++ ys)
from-append m [] ys h k = k
from-append m (x ∷ xs) ys h k = (h.0, from-append m xs ys h.1 k)

pub up_to-append : (m : ℕ) (xs ys : List Timed) → AreUpTo m xs → AreUpTo m ys → AreUpTo m (xs ++ ys)
up_to-append m [] ys h k = k
up_to-append m (x ∷ xs) ys h k = (h.0, up_to-append m xs ys h.1 k)

pub up_to_back : (m : ℕ) (xs ys : List Timed) → AreUpTo m (xs ++ ys) → AreUpTo m ys
up_to_back m [] ys h = h
up_to_back m (x ∷ xs) ys h = up_to_back m xs ys h.1

-- one more packet
pub from_bound : (m : ℕ) (t : Timed) (ts : List Timed) → m ≤ t.moment → AreFrom m ts → AreFrom m (ts ++ t ∷ [])
from_bound m t ts le h = from-append m ts (t ∷ []) h (le, tt)

pub rise-append : (m : ℕ) (xs ys : List Timed) → Rise xs → AreUpTo m xs → AreFrom m ys → Rise ys → Rise (xs ++ ys)
rise-append m [] ys r u f s = s
rise-append m (x ∷ xs) ys r u f s = (
  from-append x.moment xs ys r.0 (from_lower x.moment m ys u.0 f),
  rise-append m xs ys r.1 u.1 f s,
)

-- what follows a packet is not before it
pub rise_back : (xs : List Timed) (t : Timed) (ts : List Timed) → Rise (xs ++ t ∷ ts) → AreFrom t.moment ts
rise_back [] t ts r = r.0
rise_back (x ∷ xs) t ts r = rise_back xs t ts r.1

pub rise_rest : (xs ys : List Timed) → Rise (xs ++ ys) → Rise ys
rise_rest [] ys r = r
rise_rest (x ∷ xs) ys r = rise_rest xs ys r.1

-- a packet of a list is as early as all, or as late
pub up_at : (m : ℕ) (ts : List Timed) (k : ℕ) (d : Timed) → k < length ts → AreUpTo m ts → (get_or ts k d).moment ≤ m
up_at m [] k d lt u = absurd (omega arith)
up_at m (t ∷ ts) zero d lt u = u.0
up_at m (t ∷ ts) (suc k) d lt u = up_at m ts k d (omega arith) u.1

pub from_at : (m : ℕ) (ts : List Timed) (k : ℕ) (d : Timed) → k < length ts → AreFrom m ts → m ≤ (get_or ts k d).moment
from_at m [] k d lt f = absurd (omega arith)
from_at m (t ∷ ts) zero d lt f = f.0
from_at m (t ∷ ts) (suc k) d lt f = from_at m ts k d (omega arith) f.1

-- the same of a packet that was read at its place
pub up_to_read : (m : ℕ) (ts : List Timed) (i : ℕ) (t : Timed) → i < length ts → t ≡ get_or ts i t → AreUpTo m ts
    → t.moment ≤ m
up_to_read m ts i t lt read u = subst (λ (v : Timed). v.moment ≤ m) (sym read) (up_at m ts i t lt u)
