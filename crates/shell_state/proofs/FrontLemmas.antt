-- The front of a list: its first `n`, where the list goes on.
use Rattle.std.proofs.Common.{◌≡◌, ℕ, ◌+◌, ◌≤◌, ◌<◌, List, [], ◌∷◌, ◌++◌, length, take, drop, ap, sym, ◌∙◌}
use Rattle.std.proofs.Common.{append_assoc, arith}
use Rattle.std.proofs.lemmas.List.{length-append, length-take-le, take_at}
use Rattle.packet_record.specs.declared.packet.Timed.{Timed}

-- behind the front
pub same_ready : (n : ℕ) (d : List Timed) → n < length d → drop (length (take n d)) d ≡ drop n d
same_ready n d lt = ap (λ k. drop k d) (length-take-le n d (omega arith))

-- where the departures go on behind the front, it stays the front
pub front_stays : (n : ℕ) (d d' r : List Timed) → n ≤ length d → d' ≡ take n d ++ r → take n d' ≡ take n d
front_stays n d d' r le e = ap (take n) e ∙ take_at (take n d) r n (length-take-le n d le)

pub front_within : (n : ℕ) (d d' r : List Timed) → n ≤ length d → d' ≡ take n d ++ r → n ≤ length d'
front_within n d d' r le e =
    let long = ap length e ∙ length-append (take n d) r in
    let front = length-take-le n d le in
    omega arith

-- the front with the next departure
pub record Next (n : ℕ) (d : List Timed) (t : Timed) : Type 0 where
  pub is : take (n + 1) d ≡ take n d ++ t ∷ []
  pub counted : n + 1 ≤ length d

pub next : (n : ℕ) (d : List Timed) (t : Timed) (ts r : List Timed) → n ≤ length d → d ≡ take n d ++ r → r ≡ t ∷ ts
    → Next n d t
next n d t ts r le e first =
    let front = take n d in
    let whole : d ≡ (front ++ t ∷ []) ++ ts = e ∙ ap (λ l. front ++ l) first ∙ sym (append_assoc front (t ∷ []) ts) in
    let short = length-take-le n d le in
    let one = length-append front (t ∷ []) in
    let long = ap length whole ∙ length-append (front ++ t ∷ []) ts in
    let same : length (front ++ t ∷ []) ≡ n + 1 = omega arith in
    record { is = ap (take (n + 1)) whole ∙ take_at (front ++ t ∷ []) ts (n + 1) same; counted = omega arith }
