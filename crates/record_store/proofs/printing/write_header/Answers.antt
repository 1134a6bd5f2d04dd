use Rattle.std.proofs.Common.{◌≡◌, ◌∙◌, ◌++◌, ℕ, List, [], ◌∷◌, ap, codes, rules}
use Rattle.std.specs.Prelude.{decimal}
use Rattle.record_store.proofs.PrintLemmas.{on_ok, header_pieces}
use Rattle.record_store.proofs.printing.write_header.Goals as goal

pub returns : goal.returns
returns c =
    let out = c.args.out.now in
    let lengths : List ℕ = decimal c.args.request ++ 32 ∷ decimal c.args.response in
    let name : c.append.new.self ≡ out ++ codes "record http " = c.in_ok-append.ensures.ok in
    let number : c.from.result ≡ c.args.port = search rules in
    let port : c.write_decimal.new.out ≡ c.append.new.self ++ decimal c.args.port = c.in_ok-write_decimal.ensures.ok
    ∙ ap (λ (n : ℕ). c.append.new.self ++ decimal n) number in
    let space : c.push.new.self ≡ c.write_decimal.new.out ++ 32 ∷ [] = c.in_ok-push.ensures.ok in
    let all : c.push.new.self ≡ ((out ++ codes "record http ") ++ decimal c.args.port) ++ 32 ∷ [] =
    space ∙ ap (λ (l : List ℕ). l ++ 32 ∷ []) (port ∙ ap (λ (l : List ℕ). l ++ decimal c.args.port) name) in
    on_ok c.write_lengths.result (c.write_lengths.new.out ≡ c.push.new.self ++ lengths)
    (c.write_lengths.new.out ≡ out ++ (codes "record http " ++ (decimal c.args.port ++ 32 ∷ lengths)))
    (λ e. e ∙ ap (λ (l : List ℕ). l ++ lengths) all ∙ header_pieces out (codes "record http ") (decimal c.args.port)
    lengths)
    c.write_lengths.ensures
