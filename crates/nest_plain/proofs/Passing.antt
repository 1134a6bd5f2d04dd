-- From one shell to the next.
use Rattle.std.proofs.Common.{◌≡◌, ◌≤◌, ℕ, List, subst, sym, length}
use Rattle.packet_record.specs.declared.packet.Timed.{Timed}
use Rattle.packet_record.specs.Moments.{AreUpTo, Rise}
use Rattle.shell_state.specs.declared.spec.DirSpec.{DirSpec}
use Rattle.packet_record.proofs.MomentsLemmas.{up_to_higher}
use Rattle.shell_state.specs.Shells.{IsBuilt, opportunities, whole_lost, whole_out}
use Rattle.shell_state.proofs.Laws.{lost_within, out_rises, out_within}

-- what departs may arrive at the next shell
pub departed_rise : (c : DirSpec) (h : ℕ) (l departed : List Timed) → IsBuilt c → departed ≡ whole_out c h l → Rise l
    → Rise departed
departed_rise c h l departed built e rises =
    subst Rise (sym e) (out_rises c h (length (opportunities c h)) l built rises)

pub departed_within : (c : DirSpec) (h : ℕ) (l departed : List Timed) → IsBuilt c → departed ≡ whole_out c h l
    → AreUpTo h l → AreUpTo h departed
departed_within c h l departed built e within =
    subst (AreUpTo h) (sym e) (out_within c h (length (opportunities c h)) l built within)

-- what is lost is lost in the run
pub lost_short : (c : DirSpec) (h : ℕ) (l lost : List Timed) → lost ≡ whole_lost c h l → AreUpTo h l → h ≤ 3600000
    → AreUpTo 3600000 lost
lost_short c h l lost e within short =
    up_to_higher h 3600000 lost short
    (subst (AreUpTo h) (sym e) (lost_within c h (length (opportunities c h)) l within))
