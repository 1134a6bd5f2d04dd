use Rattle.std.proofs.Common.{◌≡◌, ◌∙◌, ℕ, take, false, sym, ap}
use Rattle.std.specs.Str.{bytes_eq}
use Rattle.std.proofs.lemmas.List.{take_min}
use Rattle.record_store.specs.declared.header.StoreForm.TheVariants.{One, Two}
use Rattle.record_store.specs.StoreText.{magic}
use Rattle.record_store.proofs.StoreLaws.{no_magic}
use Rattle.record_store.proofs.reading.read_form.Goals as goal

pub returns-else-eq-2 : goal.returns-else-eq-2
returns-else-eq-2 c =
    let first = c.split_at.result.0.now in
    let is : first ≡ take 10 c.args.text.now = c.split_at.ensures.front
    ∙ ap (λ (n : ℕ). take n c.args.text.now) c.min.ensures ∙ take_min 10 c.args.text.now in
    let two : bytes_eq first (magic Two) ≡ false = ap (bytes_eq first) (sym c.as_slice.ensures) ∙ sym c.if-eq.ensures in
    let one : bytes_eq first (magic One) ≡ false = ap (bytes_eq first) (sym c.as_slice-else-eq.ensures)
    ∙ sym c.if-eq-2.ensures in
    no_magic c.args.text.now first is two one
