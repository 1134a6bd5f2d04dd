-- Bytes that go, and by how many packets have a number.
use Rattle.std.proofs.Common.{◌≡◌, ◌≢◌, ◌≤◌, ◌<◌, ◌+◌, ◌∙◌, ℕ, zero, suc, Bool, List, [], ◌∷◌, None, cond, length}
use Rattle.std.proofs.Common.{take}
use Rattle.std.proofs.Common.{drop, get_or, nat_eq, ne_eqb, ap, sym, arith, add-one, eq-eqb, ⊎_elim}
use Rattle.std.proofs.lemmas.Bool.{cases_eq}
use Rattle.std.proofs.lemmas.Map.{update_apart, update_here}
use Rattle.std.proofs.Math.Seq.{take-suc}
use Rattle.std.specs.Map.{update}
use Rattle.packet_record.specs.declared.packet.Packet.{Packet}
use Rattle.packet_record.specs.declared.packet.Timed.{Timed}
use Rattle.packet_record.specs.Packets.{number}
use Rattle.link_core.proofs.OnceLaws.{number_append}
use Rattle.live_relay.specs.Lines.{number_all}
use Rattle.live_relay.specs.declared.kept.Kept.{Kept}
use Rattle.live_relay.specs.inside.Pieces.{has_number, kept_at}

-- one packet more
one : (Packet → Bool) → Timed → ℕ
one p t = cond (p t.packet) 1 0

number_more : (p : Packet → Bool) (ts : List Timed) (k : ℕ) (t : Timed) → k < length ts → t ≡ get_or ts k t
    → number p (take (k + 1) ts) ≡ number p (take k ts) + one p t
unfolding one
number_more p ts k t lt is =
    let next : number p (take (k + 1) ts) ≡ number p (take k ts) + (one p (get_or ts k t) + 0) =
    ap (λ n. number p (take n ts)) (add-one k) ∙ ap (number p) (take-suc ts k t lt)
    ∙ number_append p (take k ts) (get_or ts k t ∷ []) in
    let same : one p t ≡ one p (get_or ts k t) = ap (one p) is in
    omega arith

one_here : (n : ℕ) (t : Timed) → n ≡ t.packet.id → one (has_number n) t ≡ 1
unfolding one
one_here n t here = ap (λ b. cond {A = ℕ} b 1 0) (eq-eqb t.packet.id n (sym here))

none_here : (n : ℕ) (t : Timed) → n ≢ t.packet.id → one (has_number n) t ≡ 0
unfolding one
none_here n t apart = ap (λ b. cond {A = ℕ} b 1 0) (ne_eqb t.packet.id n (λ e. apart (sym e)))

-- the bytes of one packet more went: those of these packets are gone, and all others are as they were
pub gone_more : (ts : List Timed) (k : ℕ) (t : Timed) (old new : Kept) → k < length ts → t ≡ get_or ts k t
    → ((n : ℕ) → kept_at new n ≡ update nat_eq (kept_at old) t.packet.id None n)
    → ((n : ℕ) → 1 ≤ number (has_number n) (take k ts) → kept_at old n ≡ None)
    → (n : ℕ) → 1 ≤ number (has_number n) (take (k + 1) ts) → kept_at new n ≡ None
gone_more ts k t old new lt is goes gone n some = ⊎_elim
    (λ (here : n ≡ t.packet.id). goes n ∙ ap (update nat_eq (kept_at old) t.packet.id None) here
    ∙ update_here (kept_at old) t.packet.id None)
    (λ (apart : n ≢ t.packet.id). goes n ∙ update_apart (kept_at old) t.packet.id None n apart
    ∙ gone n (before apart))
    (cases_eq n t.packet.id)
  where
    before : n ≢ t.packet.id → 1 ≤ number (has_number n) (take k ts)
    before apart =
        let more = number_more (has_number n) ts k t lt is in
        let none = none_here n t apart in
        omega arith

pub rest_more : (ts : List Timed) (k : ℕ) (t : Timed) (first old new : Kept) → k < length ts → t ≡ get_or ts k t
    → ((n : ℕ) → kept_at new n ≡ update nat_eq (kept_at old) t.packet.id None n)
    → ((n : ℕ) → number (has_number n) (take k ts) ≡ 0 → kept_at old n ≡ kept_at first n)
    → (n : ℕ) → number (has_number n) (take (k + 1) ts) ≡ 0 → kept_at new n ≡ kept_at first n
rest_more ts k t first old new lt is goes rest n none = ⊎_elim
    (λ (here : n ≡ t.packet.id). absurd (not_here here))
    (λ (apart : n ≢ t.packet.id). goes n ∙ update_apart (kept_at old) t.packet.id None n apart ∙ rest n before)
    (cases_eq n t.packet.id)
  where
    more : number (has_number n) (take (k + 1) ts) ≡ number (has_number n) (take k ts) + one (has_number n) t
    more = number_more (has_number n) ts k t lt is

    before : number (has_number n) (take k ts) ≡ 0
    before = let m = more in omega arith

    not_here : n ≡ t.packet.id → ⊥
    not_here here =
        let m = more in
        let some = one_here n t here in
        omega arith

number_drop : (p : Packet → Bool) (k : ℕ) (ts : List Timed) → number p (drop k ts) ≤ number p ts
number_drop p zero ts = omega arith
number_drop p (suc k) [] = omega arith
number_drop p (suc k) (t ∷ ts) = let rest = number_drop p k ts in omega arith

number_take : (p : Packet → Bool) (k : ℕ) (ts : List Timed) → number p (take k ts) ≤ number p ts
number_take p zero ts = omega arith
number_take p (suc k) [] = omega arith
number_take p (suc k) (t ∷ ts) = let rest = number_take p k ts in omega arith

number_in : (p : Packet → Bool) (k : ℕ) (lists : List (List Timed)) → number p (get_or lists k []) ≤ number_all p lists
number_in p k [] = omega arith
number_in p zero (ts ∷ lists) = omega arith
number_in p (suc k) (ts ∷ lists) = let rest = number_in p k lists in omega arith

-- what none of these lists has, no part of one of them has
pub none_lost : (p : Packet → Bool) (lists : List (List Timed)) (shell before count : ℕ) (lost : List Timed)
    → lost ≡ get_or lists shell [] → number_all p lists ≡ 0 → number p (take count (drop before lost)) ≡ 0
none_lost p lists shell before count lost is none =
    let all = number_in p shell lists in
    let rest = number_drop p before lost in
    let front = number_take p count (drop before lost) in
    let same : number p lost ≡ number p (get_or lists shell []) = ap (number p) is in
    omega arith
