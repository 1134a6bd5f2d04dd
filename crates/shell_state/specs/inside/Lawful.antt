-- What every kind of shell keeps. Proofs above go by these laws, and never by the kind.
use Rattle.std.specs.Prelude.{◌≡◌, ℕ, ◌+◌, ◌≤◌, ◌<◌, Bool, false, List, [], ◌++◌, length}
use Rattle.packet_record.specs.declared.packet.Packet.{Packet}
use Rattle.packet_record.specs.declared.packet.Timed.{Timed}
use Rattle.packet_record.specs.Moments.{AreFrom, AreUpTo, Rise}
use Rattle.packet_record.specs.Packets.{number}
use Rattle.shell_log.specs.declared.entry.Entry.{Entry}
use Rattle.link_core.specs.Promises.{count_to, AreCovered}
use Rattle.link_core.specs.inside.Promises.{Extends}
use Rattle.shell_state.specs.Meaning.{Meaning}
use Rattle.shell_state.specs.Wholes.{IsLogged}

pub record IsLawful (m : Meaning) : Type 0 where
  -- Where more is fed, and maybe more is burnt, the departures go on: none is taken back, and each new one is at or
  -- after the floor.
  pub out_fed : (h b b' bound : ℕ) (l cs : List Timed) → m.built → b ≤ b' → b ≤ count_to (m.opportunities h) bound
      → AreCovered (m.opportunities h) b l → Rise l → AreUpTo bound l → AreFrom bound cs → Rise cs
      → Extends (m.out h b' (l ++ cs)) (m.out h b l) (m.floor h b bound)
  -- where more is burnt, likewise
  pub out_burnt : (h b b' bound : ℕ) (l : List Timed) → m.built → b ≤ b' → Rise l
      → AreCovered (m.opportunities h) b l → Extends (m.out h b' l) (m.out h b l) (m.floor h b bound)
  pub out_rises : (h b : ℕ) (l : List Timed) → m.built → Rise l → Rise (m.out h b l)
  pub out_within : (h b : ℕ) (l : List Timed) → m.built → AreUpTo h l → AreUpTo h (m.out h b l)
  -- what has departed is not after the floor
  pub out_up_to : (h b bound : ℕ) (l : List Timed) → m.built → AreUpTo bound l
      → AreUpTo (m.floor h b bound) (m.out h b l)
  -- none is lost past the horizon
  pub lost_within : (h b : ℕ) (l : List Timed) → AreUpTo h l → AreUpTo h (m.lost h b l)
  -- each packet departs, is dropped or stays inside, once: of those that pass any test, such as one for a number
  pub number_once : (p : Packet → Bool) (h b : ℕ) (l : List Timed) → m.built
      → number p l ≡ number p (m.out h b l) + number p (m.lost h b l) + number p (m.inside h b l)
  pub floor_grows : (h b b' bound bound' : ℕ) → m.built → b ≤ b' → bound ≤ bound'
      → m.floor h b bound ≤ m.floor h b' bound'
  pub floor_within : (h b bound : ℕ) → bound ≤ h + 1 → m.floor h b bound ≤ h + 1
  -- where all opportunities up to the bound have just been burnt, and one at least, the floor rises
  pub floor_rises : (h b bound : ℕ) → m.built → b < count_to (m.opportunities h) bound
      → m.floor h b bound < m.floor h (count_to (m.opportunities h) bound) bound
  -- where all opportunities up to the bound are burnt, the floor isn't below it
  pub floor_from : (h b bound : ℕ) → m.built → bound ≤ h + 1 → count_to (m.opportunities h) bound ≤ b
      → bound ≤ m.floor h b bound
  -- and with a log it is above a bound up to the horizon
  pub floor_above : (h b bound : ℕ) → m.built → IsLogged m.is_logged → bound ≤ h
      → count_to (m.opportunities h) bound ≤ b → bound < m.floor h b bound
  -- every opportunity up to the horizon counts at it
  pub all_at_horizon : (h : ℕ) → count_to (m.opportunities h) h ≡ length (m.opportunities h)
  -- without a log there is none
  pub none_unlogged : (h : ℕ) → m.is_logged ≡ false → m.opportunities h ≡ []
  -- the log goes on
  pub log_fed : (h b b' bound : ℕ) (l cs : List Timed) → m.built → b ≤ b' → b ≤ count_to (m.opportunities h) bound
      → AreCovered (m.opportunities h) b l → Rise l → AreUpTo bound l → AreFrom bound cs → Rise cs
      → (rest : List Entry) × (m.log h b' (l ++ cs) ≡ m.log h b l ++ rest)
  pub log_burnt : (h b b' : ℕ) (l : List Timed) → m.built → b ≤ b' → Rise l → AreCovered (m.opportunities h) b l
      → (rest : List Entry) × (m.log h b' l ≡ m.log h b l ++ rest)
