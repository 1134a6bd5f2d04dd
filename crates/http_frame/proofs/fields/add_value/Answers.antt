use Rattle.std.proofs.Common.{◌∙◌, Err, refl, sym, ap, subst}
use Rattle.std.specs.Result.{IsErrOf}
use Rattle.http_header.specs.declared.map.HeaderMapError.TheVariants.{MaxSizeReached}
use Rattle.http_frame.proofs.FieldLemmas.{has_room}
use Rattle.http_frame.proofs.fields.add_value.Goals as goal

pub unreachable-requires : goal.unreachable-requires
unreachable-requires c =
    let a = c.in-Err-MaxSizeReached in
    let is : IsErrOf c.append.result MaxSizeReached = subst (λ r. IsErrOf r MaxSizeReached)
    (sym (a.is ∙ ap Err a.field-0-is)) refl in
    has_room c.args.fields.now _ c.requires.names c.requires.values (c.append.ensures.full.0 is)
