-- A shell that has a name for its log has a log.
use Rattle.std.proofs.Common.{◌≡◌, ◌∙◌, Bool, true, false, List, Option, Some, None, IsSome, is_some, refl}
use Rattle.std.proofs.Common.{if◌then◌else◌}
use Rattle.shell_log.specs.declared.entry.Entry.{Entry}
use Rattle.shell_state.specs.declared.spec.DirSpec.{DirSpec}
use Rattle.shell_state.specs.Shells.{meaning}
use Rattle.shell_state.specs.Wholes.{IsLink, IsLogged, if_link, if_logged}
use Rattle.nest_spec.specs.Words.{Text}

logged : (b : Bool) (entries : List Entry) → IsLogged b → if_logged b entries ≡ Some entries
logged true entries is = refl
logged false entries is = elim is [ ]

pub is_logged : (c : DirSpec) (entries : List Entry) → IsLink c → if_link c entries ≡ Some entries
is_logged c entries is = logged (meaning c).is_logged entries is

pub logged_where_named : (name : Option Text) (c : DirSpec) (entries : List Entry) (log : Option (List Entry))
    → (IsSome name → IsLink c) → log ≡ (if is_some name then if_link c entries else None) → IsSome name
    → log ≡ Some entries
logged_where_named None c entries log link is some = absurd (cc some)
logged_where_named (Some name) c entries log link is some = is ∙ is_logged c entries (link some)
