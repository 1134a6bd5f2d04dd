-- What clocks tell.
use Rattle.std.proofs.Common.{◌≡◌, ℕ, zero, suc, ◌≤◌, ◌<◌, ◌-◌, ◌+◌, ◌^◌, Bool, true, false, cond, List, [], ◌∷◌, ◌++◌}
use Rattle.std.proofs.Common.{Option, Some, None, length, min, get_or, nat_lt, ap, sym, subst, ◌∙◌, refl, append_assoc}
use Rattle.std.proofs.Common.{arith, rules, tests}
use Rattle.std.proofs.lemmas.List.{append-nil}
use Rattle.mm_base.specs.Counts.{one_more}
use Rattle.live_relay.specs.Clocks.{Reads}
use Rattle.live_relay.specs.MemClocks.{MemClockState, NeverFall, answer_at, first_answers, latest_of, mem_clock_view}

pub reads_none : (o : Option (List ℕ)) → Reads [] o o
reads_none o all e = (all, e, sym (append-nil all))

pub reads_on : (xs ys : List ℕ) (a b c : Option (List ℕ)) → Reads xs a b → Reads ys b c → Reads (xs ++ ys) a c
reads_on xs ys a b c p q all e =
    let later = q all e in
    let before = p later.0 later.1 in
    (before.0, before.1, later.2 ∙ ap (λ (l : List ℕ). l ++ ys) before.2 ∙ append_assoc before.0 xs ys)

low_all : (low : ℕ) (ms : List ℕ) (k : ℕ) → NeverFall low ms → k < length ms → low ≤ get_or ms k 0
low_all low [] k n lt = absurd (omega arith)
low_all low (m ∷ ms) zero n lt = n.0
low_all low (m ∷ ms) (suc k) n lt = let rest = low_all m ms k n.1 (omega arith) in let first = n.0 in omega arith

rising : (low : ℕ) (ms : List ℕ) (i j : ℕ) → NeverFall low ms → i ≤ j → j < length ms → get_or ms i 0 ≤ get_or ms j 0
rising low [] i j n le lt = absurd (omega arith)
rising low (m ∷ ms) zero zero n le lt = omega arith
rising low (m ∷ ms) zero (suc j) n le lt = low_all m ms j n.1 (omega arith)
rising low (m ∷ ms) (suc i) zero n le lt = absurd (omega arith)
rising low (m ∷ ms) (suc i) (suc j) n le lt = rising m ms i j n.1 (omega arith) (omega arith)

-- a call's answer is not before the last one
pub latest_rises : (ms : List ℕ) (calls : ℕ) → NeverFall 0 ms → 1 ≤ length ms
    → latest_of ms calls ≤ answer_at ms calls
latest_rises ms zero n some = omega arith
latest_rises ms (suc k) n some = rising 0 ms (min k (length ms - 1)) (min (suc k) (length ms - 1)) n (omega arith)
    (omega arith)

-- it is the last answer afterwards, also where the calls aren't counted any more
pub latest_is : (ms : List ℕ) (calls : ℕ) → length ms < 2 ^ 63 → latest_of ms (one_more calls) ≡ answer_at ms calls
latest_is ms calls few = by (nat_lt (calls + 1) (2 ^ 64)) refl
  where
    by : (b : Bool) → nat_lt (calls + 1) (2 ^ 64) ≡ b → latest_of ms (one_more calls) ≡ answer_at ms calls
    by true e =
        let lt : calls + 1 < 2 ^ 64 = search (rules, tests) in
        let is : one_more calls ≡ suc calls = omega arith in
        ap (latest_of ms) is
    by false e =
        let le : 2 ^ 64 ≤ calls + 1 = search (rules, tests) in
        let is : one_more calls ≡ suc (2 ^ 64 - 2) = omega arith in
        let place : min (2 ^ 64 - 2) (length ms - 1) ≡ min calls (length ms - 1) = omega arith in
        ap (latest_of ms) is ∙ ap (λ k. get_or ms k 0) place

pub mem_falls_not : (s : MemClockState) (m : ℕ) → NeverFall 0 s.moments → 1 ≤ length s.moments
    → m ≡ answer_at s.moments s.calls → latest_of s.moments s.calls ≤ m
mem_falls_not s m never some is = subst (λ n. latest_of s.moments s.calls ≤ n) (sym is)
    (latest_rises s.moments s.calls never some)

-- a clock in memory that tells its answers still has told them before
pub mem_reads : (s : MemClockState) (m n : ℕ) → m ≡ answer_at s.moments s.calls → n ≡ one_more s.calls
    → Reads (m ∷ []) (mem_clock_view s).moments (mem_clock_view (record { moments = s.moments; calls = n; ends = s.ends })).moments
mem_reads s m n is next all e = by (nat_lt n (2 ^ 64 - 1)) refl e
  where
    by : (b : Bool) → nat_lt n (2 ^ 64 - 1) ≡ b → cond b (Some (first_answers s.moments n)) None ≡ Some all
        → (before : List ℕ) × ((mem_clock_view s).moments ≡ Some before) × (all ≡ before ++ m ∷ [])
    by false f e = absurd (cc e)
    by true f e =
        let lt : n < 2 ^ 64 - 1 = search (rules, tests) in
        let one : n ≡ suc s.calls = omega arith in
        let told : nat_lt s.calls (2 ^ 64 - 1) ≡ true =
        let low : s.calls < 2 ^ 64 - 1 = omega arith in search (rules, tests) in
        let same : first_answers s.moments n ≡ all = cc e in (
          first_answers s.moments s.calls,
          ap (λ b. cond b (Some (first_answers s.moments s.calls)) None) told,
          sym same ∙ ap (first_answers s.moments) one
              ∙ ap (λ k. first_answers s.moments s.calls ++ k ∷ []) (sym is),
        )
