-- What is sent to a side, piece by piece.
use Rattle.std.proofs.Common.{◌≡◌, ℕ, ◌<◌, ◌+◌, List, [], ◌∷◌, ◌++◌, Option, Some, None, option_map, length, map}
use Rattle.std.proofs.Common.{take, drop}
use Rattle.std.proofs.Common.{get_or, ap, sym, ◌∙◌, refl, append_assoc, add-one}
use Rattle.std.proofs.Common.{Contains, Err, rules}
use Rattle.std.proofs.lemmas.List.{append-nil, map-append, take-append-drop}
use Rattle.std.proofs.Math.Seq.{take-suc}
use Rattle.mm_base.specs.Counts.{one_more}
use Rattle.mm_base.specs.declared.errors.EndError.TheVariants.{Failed}
use Rattle.packet_record.specs.declared.packet.Timed.{Timed}
use Rattle.live_relay.specs.declared.side.Side.{Side}
use Rattle.live_relay.specs.declared.side.Side.TheVariants.{Client, Server}
use Rattle.live_relay.specs.MemWires.{IsWireCall, MemWireState}
use Rattle.live_relay.specs.Wires.{WireTold, sending_all}
use Rattle.live_relay.specs.inside.Ways.{StopsSending}

sending_more : (side : Side) (xs ys : List (List ℕ)) (w : WireTold)
    → sending_all side ys (sending_all side xs w) ≡ sending_all side (xs ++ ys) w
sending_more Client xs ys w =
    ap (λ (l : List (List ℕ)). record w { sent = record { client = l; server = w.sent.server } })
    (append_assoc w.sent.client xs ys)
sending_more Server xs ys w =
    ap (λ (l : List (List ℕ)). record w { sent = record { client = w.sent.client; server = l } })
    (append_assoc w.sent.server xs ys)

sending_none : (side : Side) (w : WireTold) → sending_all side [] w ≡ w
sending_none Client w =
    ap (λ (l : List (List ℕ)). record w { sent = record { client = l; server = w.sent.server } })
    (append-nil w.sent.client)
sending_none Server w =
    ap (λ (l : List (List ℕ)). record w { sent = record { client = w.sent.client; server = l } })
    (append-nil w.sent.server)

pub told_none : (side : Side) (told : Option WireTold) → told ≡ option_map (sending_all side []) told
told_none side None = refl
told_none side (Some w) = ap (λ (x : WireTold). Some x) (sym (sending_none side w))

pub told_more : (side : Side) (xs ys : List (List ℕ)) (told : Option WireTold)
    → option_map (sending_all side ys) (option_map (sending_all side xs) told)
    ≡ option_map (sending_all side (xs ++ ys)) told
told_more side xs ys None = refl
told_more side xs ys (Some w) = ap (λ (x : WireTold). Some x) (sending_more side xs ys w)

-- one piece more
pub told_one : (side : Side) (f : Timed → List ℕ) (ts : List Timed) (k : ℕ) (t : Timed) (a b c : Option WireTold)
    → k < length ts → t ≡ get_or ts k t → b ≡ option_map (sending_all side (map f (take k ts))) a
    → c ≡ option_map (sending_all side (f t ∷ [])) b
    → c ≡ option_map (sending_all side (map f (take (k + 1) ts))) a
told_one side f ts k t a b c lt is e e' =
    let front = map f (take k ts) in
    let next : map f (take (k + 1) ts) ≡ front ++ f t ∷ [] =
    ap (λ n. map f (take n ts)) (add-one k) ∙ ap (map f) (take-suc ts k t lt)
    ∙ map-append f (take k ts) (get_or ts k t ∷ []) ∙ ap (λ (x : Timed). front ++ f x ∷ []) (sym is) in
    e' ∙ ap (option_map (sending_all side (f t ∷ []))) e ∙ told_more side front (f t ∷ []) a
    ∙ ap (λ (l : List (List ℕ)). option_map (sending_all side l) a) (sym next)

-- where sending stops after some of these packets
pub stopped_at : (side : Side) (f : Timed → List ℕ) (ts : List Timed) (k : ℕ) (a b : Option WireTold)
    → b ≡ option_map (sending_all side (map f (take k ts))) a → StopsSending side (map f ts) a b
stopped_at side f ts k a b e = record {
  front = map f (take k ts);
  some = record {
    more = map f (drop k ts);
    is = ap (map f) (sym (take-append-drop k ts)) ∙ map-append f (take k ts) (drop k ts);
  };
  told = e;
}

-- a refused send changes nothing
pub same_map : (told : Option WireTold) → option_map (λ (w : WireTold). w) told ≡ told
same_map None = refl
same_map (Some w) = refl

-- a call of a wire in memory that is to fail
pub failed_call : (old : MemWireState) (calls faults : ℕ) → calls ≡ one_more old.calls → Contains old.fails calls
    → faults ≡ one_more old.faults
    → IsWireCall {T = Unit {0}} old (record old { calls = calls; faults = faults }) (Err Failed)
failed_call old calls faults counted there more = record {
  same_fails = refl;
  counted = counted;
  failed = λ is. there;
  not_failed = search rules;
  fault = λ is. more;
  no_fault = λ is_not. absurd (is_not (search rules));
}
