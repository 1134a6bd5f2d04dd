use Rattle.std.proofs.Common.{◌≡◌, ◌+◌, ◌∙◌, List, Some, None, ap, drop, map, option_map, string_bytes, sym, take}
use Rattle.std.proofs.lemmas.List.{take_rest}
use Rattle.option_words.specs.Commands.{table_of}
use Rattle.option_words.specs.Givens.{givens}
use Rattle.option_words.specs.Shells.{split_words}
use Rattle.option_words.proofs.WordLemmas.{split_nowhere, split_there}
use Rattle.option_words.proofs.split.read_split.Goals as goal

pub returns-in_default : goal.returns-in_default
returns-in_default c =
    sym (split_nowhere string_bytes (table_of c.args.command) c.args.words.now (sym c.end_of_options.ensures.place
    ∙ c.in_default.is))

pub returns-in-Some-2 : goal.returns-in-Some-2
returns-in-Some-2 c =
    let words = c.args.words.now in
    let place = c.in-Some.end in
    let table = table_of c.args.command in
    let texts = map (λ o. option_map (λ s. s.now) o) c.in-Some-2.given.items in
    let found : Some texts ≡ givens table (map string_bytes (take place words)) =
    ap (option_map (λ v. map (λ o. option_map (λ s. s.now) o) v.items)) (sym c.in-Some-2.is) ∙ c.in_ok-given.ensures in
    ap (λ l. Some (record { given = texts; shells = map string_bytes l })) (take_rest words (place + 1))
    ∙ ap (option_map (λ given. record { given = given; shells = map string_bytes (drop (place + 1) words) })) found
    ∙ sym (split_there string_bytes table words place (sym c.in-Some.ensures.place))

pub returns-in-None : goal.returns-in-None
returns-in-None c =
    let words = c.args.words.now in
    let place = c.in-Some.end in
    let table = table_of c.args.command in
    let found : None ≡ givens table (map string_bytes (take place words)) =
    ap (option_map (λ v. map (λ o. option_map (λ s. s.now) o) v.items)) (sym c.in-None.is) ∙ c.in_ok-given.ensures in
    ap (option_map (λ given. record { given = given; shells = map string_bytes (drop (place + 1) words) })) found
    ∙ sym (split_there string_bytes table words place (sym c.in-Some.ensures.place))
