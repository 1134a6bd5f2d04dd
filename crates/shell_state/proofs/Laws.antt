-- The laws of `IsLawful` at each direction, and what follows of its kind.
use Rattle.std.proofs.Common.{◌≡◌, ◌⊎◌, inl, inr, ℕ, ◌+◌, ◌≤◌, ◌<◌, Bool, true, false, List, ◌++◌, length, refl, ap}
use Rattle.packet_record.specs.declared.packet.Packet.{Packet}
use Rattle.packet_record.specs.declared.packet.Timed.{Timed}
use Rattle.packet_record.specs.Moments.{AreFrom, AreUpTo, Rise}
use Rattle.packet_record.specs.Packets.{number}
use Rattle.shell_log.specs.declared.entry.Entry.{Entry}
use Rattle.trace_reader.specs.declared.opportunity.Opportunity.{Opportunity}
use Rattle.link_core.specs.Promises.{count_to, AreCovered}
use Rattle.link_core.specs.inside.Promises.{Extends}
use Rattle.shell_state.specs.declared.spec.DirSpec.{DirSpec}
use Rattle.shell_state.specs.Shells.{meaning, IsBuilt, opportunities, out, lost, inside, shell_log, floor}
use Rattle.shell_state.specs.Wholes.{IsLogged, IsLink}
use Rattle.shell_state.proofs.KindLaws.{lawful}

pub out_fed : (c : DirSpec) (h b b' bound : ℕ) (l cs : List Timed) → IsBuilt c → b ≤ b'
    → b ≤ count_to (opportunities c h) bound → AreCovered (opportunities c h) b l
    → Rise l → AreUpTo bound l → AreFrom bound cs → Rise cs
    → Extends (out c h b' (l ++ cs)) (out c h b l) (floor c h b bound)
unfolding out floor opportunities
out_fed c = (lawful c).out_fed

pub out_burnt : (c : DirSpec) (h b b' bound : ℕ) (l : List Timed) → IsBuilt c → b ≤ b' → Rise l
    → AreCovered (opportunities c h) b l → Extends (out c h b' l) (out c h b l) (floor c h b bound)
unfolding out floor opportunities
out_burnt c = (lawful c).out_burnt

pub out_rises : (c : DirSpec) (h b : ℕ) (l : List Timed) → IsBuilt c → Rise l → Rise (out c h b l)
unfolding out
out_rises c = (lawful c).out_rises

pub out_within : (c : DirSpec) (h b : ℕ) (l : List Timed) → IsBuilt c → AreUpTo h l → AreUpTo h (out c h b l)
unfolding out
out_within c = (lawful c).out_within

pub out_up_to : (c : DirSpec) (h b bound : ℕ) (l : List Timed) → IsBuilt c → AreUpTo bound l
    → AreUpTo (floor c h b bound) (out c h b l)
unfolding out floor
out_up_to c = (lawful c).out_up_to

pub lost_within : (c : DirSpec) (h b : ℕ) (l : List Timed) → AreUpTo h l → AreUpTo h (lost c h b l)
unfolding lost
lost_within c = (lawful c).lost_within

pub number_once : (p : Packet → Bool) (c : DirSpec) (h b : ℕ) (l : List Timed) → IsBuilt c
    → number p l ≡ number p (out c h b l) + number p (lost c h b l) + number p (inside c h b l)
unfolding out lost inside
number_once p c = (lawful c).number_once p

pub floor_grows : (c : DirSpec) (h b b' bound bound' : ℕ) → IsBuilt c → b ≤ b' → bound ≤ bound'
    → floor c h b bound ≤ floor c h b' bound'
unfolding floor
floor_grows c = (lawful c).floor_grows

pub floor_within : (c : DirSpec) (h b bound : ℕ) → bound ≤ h + 1 → floor c h b bound ≤ h + 1
unfolding floor
floor_within c = (lawful c).floor_within

pub floor_rises : (c : DirSpec) (h b bound : ℕ) → IsBuilt c → b < count_to (opportunities c h) bound
    → floor c h b bound < floor c h (count_to (opportunities c h) bound) bound
unfolding floor opportunities
floor_rises c = (lawful c).floor_rises

pub floor_from : (c : DirSpec) (h b bound : ℕ) → IsBuilt c → bound ≤ h + 1 → count_to (opportunities c h) bound ≤ b
    → bound ≤ floor c h b bound
unfolding floor opportunities
floor_from c = (lawful c).floor_from

pub floor_above : (c : DirSpec) (h b bound : ℕ) → IsBuilt c → IsLink c → bound ≤ h
    → count_to (opportunities c h) bound ≤ b → bound < floor c h b bound
unfolding floor opportunities
floor_above c = (lawful c).floor_above

pub all_at_horizon : (c : DirSpec) (h : ℕ) → count_to (opportunities c h) h ≡ length (opportunities c h)
unfolding opportunities
all_at_horizon c = (lawful c).all_at_horizon

pub log_fed : (c : DirSpec) (h b b' bound : ℕ) (l cs : List Timed) → IsBuilt c → b ≤ b'
    → b ≤ count_to (opportunities c h) bound
    → AreCovered (opportunities c h) b l → Rise l → AreUpTo bound l → AreFrom bound cs → Rise cs → (rest : List Entry)
    × (shell_log c h b' (l ++ cs) ≡ shell_log c h b l ++ rest)
unfolding shell_log opportunities
log_fed c = (lawful c).log_fed

pub log_burnt : (c : DirSpec) (h b b' : ℕ) (l : List Timed) → IsBuilt c → b ≤ b' → Rise l
    → AreCovered (opportunities c h) b l
    → (rest : List Entry) × (shell_log c h b' l ≡ shell_log c h b l ++ rest)
unfolding shell_log opportunities
log_burnt c = (lawful c).log_burnt

logged_or_not : (b : Bool) → (IsLogged b) ⊎ (IsLogged b → ⊥)
logged_or_not true = inl tt
logged_or_not false = inr (λ logged. logged)

pub link_or_not : (c : DirSpec) → (IsLink c) ⊎ (IsLink c → ⊥)
link_or_not c = logged_or_not (meaning c).is_logged

not_logged : (b : Bool) → (IsLogged b → ⊥) → b ≡ false
not_logged true not = absurd (not tt)
not_logged false not = refl

-- only links have opportunities
pub none_of : (c : DirSpec) (h n : ℕ) → (IsLink c → ⊥) → count_to (opportunities c h) n ≡ 0
unfolding opportunities
none_of c h n not = ap (λ (os : List Opportunity). count_to os n)
    ((lawful c).none_unlogged h (not_logged (meaning c).is_logged not))
