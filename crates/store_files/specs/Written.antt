-- The file that a store is written to.
use Rattle.std.specs.Prelude.{List, [], ◌∷◌}
use Rattle.record_store.specs.StoreText.{store_text}
use Rattle.record_store.specs.declared.header.StoreForm.TheVariants.{Two}
use Rattle.record_store.specs.declared.record.Record.{Record}
use Rattle.command_ends.specs.Causes.{Text}
use Rattle.command_ends.specs.Outputs.{NamedText, named_text}

-- The file has the store's text in form 2.
abbrev pub store_file : Text → List Record → List NamedText
store_file name records = named_text name (store_text Two records) ∷ []
