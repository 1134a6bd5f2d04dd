-- How often packets stand in a list, and that each shell keeps that.
use Rattle.std.proofs.Common.{◌≡◌, ℕ, ◌+◌, ◌≤◌, ◌||◌, Bool, true, false, cond, eqb, List, [], ◌∷◌, Option, Some, None}
use Rattle.std.proofs.Common.{length, refl, arith}
use Rattle.std.specs.List.{list_any}
use Rattle.packet_record.specs.declared.packet.Packet.{Packet}
use Rattle.packet_record.specs.declared.packet.Timed.{Timed}
use Rattle.packet_record.specs.Packets.{number}
use Rattle.shell_state.specs.declared.spec.DirSpec.{DirSpec}
use Rattle.shell_state.specs.Shells.{IsBuilt, opportunities, whole_out, whole_lost}
use Rattle.shell_state.specs.Shells.{whole_inside}
use Rattle.shell_state.proofs.Laws.{number_once}
use Rattle.nest_spec.specs.Fates.{find_id}
use Rattle.nest_spec.specs.inside.Marks.{ids_of}

abbrev pub is_id : ℕ → Packet → Bool
is_id id p = eqb p.id id

-- what arrives ends in one of three lists
pub all_three : (p : Packet → Bool) (c : DirSpec) (h : ℕ) (l : List Timed) → IsBuilt c
    → number p (whole_out c h l) + number p (whole_lost c h l) + number p (whole_inside c h l) ≡ number p l
all_three p c h l built = let all = number_once p c h (length (opportunities c h)) l built in omega arith

-- a number that stands nowhere isn't found
none_by : (b : Bool) (t : Timed) (n : ℕ) (o : Option Timed) → cond b 1 0 + n ≡ 0 → (n ≡ 0 → o ≡ None)
    → cond b (Some t) o ≡ None
none_by true t n o e rest = absurd (let no : 1 + n ≡ 0 = e in omega arith)
none_by false t n o e rest = rest (let zero_ : 0 + n ≡ 0 = e in omega arith)

pub none_found : (id : ℕ) (ts : List Timed) → number (is_id id) ts ≡ 0 → find_id id ts ≡ None
none_found id [] e = refl
none_found id (t ∷ ts) e = none_by (eqb t.packet.id id) t (number (is_id id) ts) (find_id id ts) e (none_found id ts)

-- and one that isn't found stands nowhere
found_by : (b : Bool) (t : Timed) (n : ℕ) (o : Option Timed) → cond b (Some t) o ≡ None → (o ≡ None → n ≡ 0)
    → cond b 1 0 + n ≡ 0
found_by true t n o e rest = absurd cc
found_by false t n o e rest = let none = rest e in omega arith

pub without_found : (id : ℕ) (ts : List Timed) → find_id id ts ≡ None → number (is_id id) ts ≡ 0
without_found id [] e = refl
without_found id (t ∷ ts) e = found_by (eqb t.packet.id id) t (number (is_id id) ts) (find_id id ts) e
    (without_found id ts)

-- a number that is found stands somewhere
some_by : (b : Bool) (t u : Timed) (n : ℕ) (o : Option Timed) → cond b (Some t) o ≡ Some u → (o ≡ Some u → 1 ≤ n)
    → 1 ≤ cond b 1 0 + n
some_by true t u n o e rest = omega arith
some_by false t u n o e rest = let some = rest e in omega arith

pub some_number : (id : ℕ) (ts : List Timed) (u : Timed) → find_id id ts ≡ Some u → 1 ≤ number (is_id id) ts
some_number id [] u e = absurd cc
some_number id (t ∷ ts) u e = some_by (eqb t.packet.id id) t u (number (is_id id) ts) (find_id id ts) e
    (some_number id ts u)

-- the numbers of a list are those that stand in it
none_among_by : (b : Bool) (n : ℕ) (a : Bool) → cond b 1 0 + n ≡ 0 → (n ≡ 0 → a ≡ false) → (b || a) ≡ false
none_among_by true n a e rest = absurd (let no : 1 + n ≡ 0 = e in omega arith)
none_among_by false n a e rest = rest (let zero_ : 0 + n ≡ 0 = e in omega arith)

pub none_among : (id : ℕ) (ts : List Timed) → number (is_id id) ts ≡ 0 → list_any (λ i. eqb i id) (ids_of ts) ≡ false
none_among id [] e = refl
none_among id (t ∷ ts) e = none_among_by (eqb t.packet.id id) (number (is_id id) ts)
    (list_any (λ i. eqb i id) (ids_of ts)) e (none_among id ts)

some_among_by : (b : Bool) (n : ℕ) (a : Bool) → 1 ≤ cond b 1 0 + n → (1 ≤ n → a ≡ true) → (b || a) ≡ true
some_among_by true n a e rest = refl
some_among_by false n a e rest = rest (let one : 1 ≤ 0 + n = e in omega arith)

pub some_among : (id : ℕ) (ts : List Timed) → 1 ≤ number (is_id id) ts → list_any (λ i. eqb i id) (ids_of ts) ≡ true
some_among id [] e = absurd (omega arith)
some_among id (t ∷ ts) e = some_among_by (eqb t.packet.id id) (number (is_id id) ts)
    (list_any (λ i. eqb i id) (ids_of ts)) e (some_among id ts)
