-- A delay over longer lists: departures are never taken back, keep the order of the arrivals, and stand up to the
-- horizon.
use Rattle.std.proofs.Common.{◌≡◌, ℕ, ◌+◌, ◌≤◌, Bool, true, false, cond, not, List, [], ◌∷◌, ◌++◌, length, map, filter}
use Rattle.std.proofs.Common.{nat_le, ap, ◌∙◌, refl, arith, rules, tests}
use Rattle.std.proofs.lemmas.List.{map-append}
use Rattle.std.proofs.lemmas.List.Elements.{filter-append}
use Rattle.packet_record.specs.declared.packet.Timed.{Timed}
use Rattle.packet_record.specs.Moments.{AreFrom, AreUpTo, Rise}
use Rattle.delay_core.specs.Delays.{later, delayed, kept_inside}

-- more arrivals only add departures
pub delayed-append : (ms h : ℕ) (xs ys : List Timed) → delayed ms h (xs ++ ys) ≡ delayed ms h xs ++ delayed ms h ys
delayed-append ms h xs ys =
    let test = λ (a : Timed). nat_le (a.moment + ms) h in
    ap (map (later ms)) (filter-append test xs ys) ∙ map-append (later ms) (filter test xs) (filter test ys)

from_kept : (low ms : ℕ) (b : Bool) (t : Timed) (us : List Timed) → (b ≡ true → low ≤ t.moment + ms)
    → AreFrom low (map (later ms) us) → AreFrom low (map (later ms) (cond b (t ∷ us) us))
from_kept low ms true t us f h = (f refl, h)
from_kept low ms false t us f h = h

pub from-delayed : (ms h bound : ℕ) (ts : List Timed) → AreFrom bound ts → AreFrom (bound + ms) (delayed ms h ts)
from-delayed ms h bound [] f = tt
from-delayed ms h bound (t ∷ ts) f = from_kept (bound + ms) ms (nat_le (t.moment + ms) h) t _
    (λ _. omega (arith, f.0)) (from-delayed ms h bound ts f.1)

up_kept : (high ms : ℕ) (b : Bool) (t : Timed) (us : List Timed) → (b ≡ true → t.moment + ms ≤ high)
    → AreUpTo high (map (later ms) us) → AreUpTo high (map (later ms) (cond b (t ∷ us) us))
up_kept high ms true t us f h = (f refl, h)
up_kept high ms false t us f h = h

pub up_to-delayed : (ms h bound : ℕ) (ts : List Timed) → AreUpTo bound ts → AreUpTo (bound + ms) (delayed ms h ts)
up_to-delayed ms h bound [] u = tt
up_to-delayed ms h bound (t ∷ ts) u = up_kept (bound + ms) ms (nat_le (t.moment + ms) h) t _ (λ _. omega (arith, u.0))
    (up_to-delayed ms h bound ts u.1)

-- no departure is after the horizon
pub within-delayed : (ms h : ℕ) (ts : List Timed) → AreUpTo h (delayed ms h ts)
within-delayed ms h [] = tt
within-delayed ms h (t ∷ ts) = up_kept h ms (nat_le (t.moment + ms) h) t _
    (λ (e : nat_le (t.moment + ms) h ≡ true). let f : t.moment + ms ≤ h = search (rules, tests) in f)
    (within-delayed ms h ts)

rise_kept : (ms : ℕ) (b : Bool) (t : Timed) (us : List Timed) → AreFrom (t.moment + ms) (map (later ms) us)
    → Rise (map (later ms) us) → Rise (map (later ms) (cond b (t ∷ us) us))
rise_kept ms true t us f h = (f, h)
rise_kept ms false t us f h = h

-- first in, first out
pub rise-delayed : (ms h : ℕ) (ts : List Timed) → Rise ts → Rise (delayed ms h ts)
rise-delayed ms h [] r = tt
rise-delayed ms h (t ∷ ts) r = rise_kept ms (nat_le (t.moment + ms) h) t _ (from-delayed ms h t.moment ts r.0)
    (rise-delayed ms h ts r.1)

one_of : (ms : ℕ) (b : Bool) (t : Timed) (us vs : List Timed) (n : ℕ) → length (map (later ms) us) + length vs ≡ n
    → length (map (later ms) (cond b (t ∷ us) us)) + length (cond (not b) (t ∷ vs) vs) ≡ n + 1
one_of ms true t us vs n e = omega arith
one_of ms false t us vs n e = omega arith

-- each arrival departs or stays inside
pub length-delayed : (ms h : ℕ) (ts : List Timed) → length (delayed ms h ts) + length (kept_inside ms h ts) ≡ length ts
length-delayed ms h [] = refl
length-delayed ms h (t ∷ ts) = let e = one_of ms (nat_le (t.moment + ms) h) t _ _ (length ts) (length-delayed ms h ts)
    in e ∙ (omega arith)
