-- Each packet that arrives departs, is dropped, or stays inside, once.
use Rattle.std.proofs.Common.{◌≡◌, ℕ, ◌+◌, Bool, true, false, not, cond, List, [], ◌∷◌, ◌++◌, map, nat_le, reverse}
use Rattle.std.proofs.Common.{refl, ap, arith}
use Rattle.packet_record.specs.declared.packet.Packet.{Packet}
use Rattle.packet_record.specs.declared.packet.Timed.{Timed}
use Rattle.delay_core.specs.Delays.{later, delayed, kept_inside}
use Rattle.loss_core.specs.Losses.{drops, dropped, passed}
use Rattle.packet_queue.specs.declared.spec.QueueSpec.{QueueSpec}
use Rattle.trace_reader.specs.declared.opportunity.Opportunity.{Opportunity}
use Rattle.trace_reader.specs.Orders.{AreRising}
use Rattle.packet_record.specs.Packets.{number}
use Rattle.link_core.specs.Links.{link_out, link_lost, link_inside}
use Rattle.link_core.proofs.Turned.{reverse_cons}
use Rattle.link_core.proofs.InOrder.{out_is, lost_is, inside_is, falling_turned}
use Rattle.link_core.proofs.OnceLaws.{number_append, number_once as link_number_once}

one : (Packet → Bool) → Timed → ℕ
one p t = cond (p t.packet) 1 0

delayed_one : (p : Packet → Bool) (ms : ℕ) (b : Bool) (t : Timed) (us vs : List Timed) (n : ℕ)
    → n ≡ number p (map (later ms) us) + number p vs
    → one p t + n ≡ number p (map (later ms) (cond b (t ∷ us) us)) + number p (cond (not b) (t ∷ vs) vs)
unfolding one
delayed_one p ms true t us vs n e = omega arith
delayed_one p ms false t us vs n e = omega arith

pub number-delayed : (p : Packet → Bool) (ms h : ℕ) (l : List Timed)
    → number p l ≡ number p (delayed ms h l) + number p (kept_inside ms h l)
unfolding one
number-delayed p ms h [] = refl
number-delayed p ms h (t ∷ ts) = delayed_one p ms (nat_le (t.moment + ms) h) t _ _ (number p ts)
    (number-delayed p ms h ts)

lost_one : (p : Packet → Bool) (b : Bool) (t : Timed) (us vs : List Timed) (n : ℕ) → n ≡ number p us + number p vs
    → one p t + n ≡ number p (cond b [] (t ∷ []) ++ us) + number p (cond b (t ∷ []) [] ++ vs)
unfolding one
lost_one p true t us vs n e = omega arith
lost_one p false t us vs n e = omega arith

pub number-passed : (p : Packet → Bool) (rate : ℕ) (word : ℕ → ℕ) (k : ℕ) (l : List Timed)
    → number p l ≡ number p (passed rate word k l) + number p (dropped rate word k l)
unfolding one
number-passed p rate word k [] = refl
number-passed p rate word k (t ∷ ts) = lost_one p (drops rate (word k)) t _ _ (number p ts)
    (number-passed p rate word (k + 1) ts)

number_reverse : (p : Packet → Bool) (l : List Timed) → number p (reverse l) ≡ number p l
unfolding one
number_reverse p [] = refl
number_reverse p (t ∷ ts) =
    let e : number p (reverse (t ∷ ts)) ≡ number p (reverse ts ++ t ∷ []) = ap (number p) (reverse_cons t ts) in
    let f = number_append p (reverse ts) (t ∷ []) in
    let g = number_reverse p ts in
    omega arith

pub number-link : (p : Packet → Bool) (q : QueueSpec) (os : List Opportunity) (l : List Timed) → AreRising os
    → number p l ≡ number p (link_out q os l) + number p (link_lost q os l) + number p (link_inside q os l)
number-link p q os l r =
    let a = number_reverse p l in
    let b = link_number_once p q (reverse os) (reverse l) (falling_turned os r) in
    let c = ap (number p) (out_is q os l r) in
    let d = ap (number p) (lost_is q os l) in
    let e = ap (number p) (inside_is q os l r) in
    omega arith
