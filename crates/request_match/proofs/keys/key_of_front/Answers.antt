use Rattle.std.proofs.Common.{[], ◌∙◌, ap}
use Rattle.std.specs.Prelude.{unwrap_or}
use Rattle.request_match.specs.inside.Index.{hash_of_bytes, key_of}
use Rattle.request_match.proofs.keys.key_of_front.Goals as goal

pub returns : goal.returns
unfolding key_of
returns c =
    let head = c.args.head.now in
    let line = c.hash_of-line.ensures ∙ ap (hash_of_bytes 0) c.requires in
    let host = c.hash_of-host.ensures ∙ ap (hash_of_bytes c.hash_of-line.result) c.value_of.ensures
    ∙ ap (λ h. hash_of_bytes h (unwrap_or head.host [])) line in
    c.hash_of.ensures ∙ ap (hash_of_bytes c.hash_of-host.result) c.value_of-2.ensures
    ∙ ap (λ h. hash_of_bytes h (unwrap_or head.agent [])) host
