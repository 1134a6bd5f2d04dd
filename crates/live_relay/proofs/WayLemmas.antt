-- What a way is fed, and what it keeps.
use Rattle.std.proofs.Common.{◌≡◌, ℕ, ◌≤◌, ◌&&◌, Bool, true, false, cond, List, [], ◌∷◌, ◌++◌, Option, Some}
use Rattle.std.proofs.Common.{None}
use Rattle.std.proofs.Common.{IfSome, option_to_list, map, nat_le, ap, sym, subst, ◌∙◌, refl}
use Rattle.std.proofs.Common.{arith, rules, tests}
use Rattle.std.proofs.lemmas.List.{append-nil}
use Rattle.packet_record.specs.declared.item.Item.{Item}
use Rattle.packet_record.specs.declared.item.Item.TheVariants.{Packet, Mark, End}
use Rattle.packet_record.specs.declared.item.FlowEnd.TheVariants.{Open}
use Rattle.packet_record.specs.declared.packet.Direction.{Direction}
use Rattle.packet_record.specs.declared.packet.Row.{Row}
use Rattle.packet_record.specs.declared.packet.Timed.{Timed}
use Rattle.packet_record.specs.Rows.{entering, goes}
use Rattle.packet_record.specs.Streams.{Stream, after, MayFollow, IsUpTo}
use Rattle.shell_state.specs.Steps.{breaks}
use Rattle.live_relay.specs.Lines.{IsFed}
use Rattle.live_relay.specs.declared.way.Way.{Way}
use Rattle.live_relay.specs.inside.Ways.{EndsWay, GoesOn, item_in}

-- what is fed at a moment may be fed, and adds what enters
pub record Feeds (d : Direction) (m h : ℕ) (row : Option Row) (f : Stream) : Type 0 where
  pub follows : MayFollow f (item_in d m row)
  pub within : IsUpTo h (item_in d m row)
  pub whole : breaks (item_in d m row) ≡ false
  pub packets : (after f (item_in d m row)).packets ≡ f.packets ++ entering d h (option_to_list row)
  pub bound : (after f (item_in d m row)).bound ≡ m
  pub going : (after f (item_in d m row)).end ≡ Open

feeds_row : (d : Direction) (m h : ℕ) (r : Row) (f : Stream) (b : Bool) → goes d r.direction ≡ b → r.timed.moment ≡ m
    → f.end ≡ Open → f.bound ≤ m → m ≤ h → Feeds d m h (Some r) f
feeds_row d m h r f b e at going later within = by b e
  where
    early : nat_le r.timed.moment h ≡ true
    early = let le : r.timed.moment ≤ h = omega arith in search (rules, tests)

    by : (b : Bool) → goes d r.direction ≡ b → Feeds d m h (Some r) f
    by true e = record {
      follows = subst (λ b. MayFollow f (cond b (Packet r.timed) (Mark m))) (sym e) (going, omega arith);
      within = subst (λ b. IsUpTo h (cond b (Packet r.timed) (Mark m))) (sym e) (omega arith);
      whole = ap (λ b. breaks (cond b (Packet r.timed) (Mark m))) e;
      packets = ap (λ b. (after f (cond b (Packet r.timed) (Mark m))).packets) e
          ∙ ap (λ (l : List Timed). f.packets ++ l)
          (sym (ap (λ b. map (λ (x : Row). x.timed) (cond (b && nat_le r.timed.moment h) (r ∷ []) [])) e
          ∙ ap (λ b. map (λ (x : Row). x.timed) (cond b (r ∷ []) [])) early));
      bound = ap (λ b. (after f (cond b (Packet r.timed) (Mark m))).bound) e ∙ at;
      going = ap (λ b. (after f (cond b (Packet r.timed) (Mark m))).end) e ∙ going;
    }
    by false e = record {
      follows = subst (λ b. MayFollow f (cond b (Packet r.timed) (Mark m))) (sym e) (going, later);
      within = subst (λ b. IsUpTo h (cond b (Packet r.timed) (Mark m))) (sym e) (omega arith);
      whole = ap (λ b. breaks (cond b (Packet r.timed) (Mark m))) e;
      packets = ap (λ b. (after f (cond b (Packet r.timed) (Mark m))).packets) e
          ∙ sym (ap (λ (l : List Timed). f.packets ++ l)
          (ap (λ b. map (λ (x : Row). x.timed) (cond (b && nat_le r.timed.moment h) (r ∷ []) [])) e)
          ∙ append-nil f.packets);
      bound = ap (λ b. (after f (cond b (Packet r.timed) (Mark m))).bound) e;
      going = ap (λ b. (after f (cond b (Packet r.timed) (Mark m))).end) e ∙ going;
    }

pub feeds_at : (d : Direction) (m h : ℕ) (row : Option Row) (f : Stream)
    → IfSome row (λ (r : Row). r.timed.moment ≡ m) → f.end ≡ Open → f.bound ≤ m → m ≤ h → Feeds d m h row f
feeds_at d m h None f at going later within = record {
  follows = (going, later);
  within = omega arith;
  whole = refl;
  packets = sym (append-nil f.packets);
  bound = refl;
  going = going;
}
feeds_at d m h (Some r) f at going later within = feeds_row d m h r f (goes d r.direction) refl at going later within

pub goes_on_from : (d : Direction) (m : ℕ) (row : Option Row) (old new : Way) (item : Item)
    → item ≡ item_in d m row → Feeds d m old.line.horizon row old.line.fed → IsFed old.line item new.line
    → new.sent ≡ old.sent → GoesOn d m row old new
goes_on_from d m row old new item is k fed sent =
    let stream : new.line.fed ≡ after old.line.fed (item_in d m row) =
    fed.fed ∙ ap (after old.line.fed) is in
    record {
      keeps = record { specs = fed.specs; horizon = fed.horizon; departed = fed.departed; sent = sent };
      packets = ap (λ (f : Stream). f.packets) stream ∙ k.packets;
      bound = ap (λ (f : Stream). f.bound) stream ∙ k.bound;
      going = ap (λ (f : Stream). f.end) stream ∙ k.going;
    }

pub ends_from : (old new : Way) → IsFed old.line End new.line → new.sent ≡ old.sent → EndsWay old new
ends_from old new fed sent = record {
  keeps = record { specs = fed.specs; horizon = fed.horizon; departed = fed.departed; sent = sent };
  packets = ap (λ (f : Stream). f.packets) fed.fed;
  ended = ap (λ (f : Stream). f.end) fed.fed;
}
