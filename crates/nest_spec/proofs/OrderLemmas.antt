-- What shells have of each direction, in the nest's order.
use Rattle.std.proofs.Common.{◌≡◌, List, [], ◌∷◌, ◌++◌, Option, Some, None, option_map, option_to_list, map, reverse}
use Rattle.std.proofs.Common.{refl, ap, sym, ◌∙◌}
use Rattle.std.proofs.lemmas.List.{append_assoc, map-append, reverse-append}
use Rattle.std.specs.List.{zip, flat_map}
use Rattle.nest_spec.specs.Walk.{in_nest_order}

-- up before down, from the outermost on
abbrev pub ordered : {A : Type 0} → List (Option A) → List (Option A) → List A
ordered ups downs = flat_map (λ (up, down). option_to_list up ++ option_to_list down) (zip ups downs)

map_some : {A B : Type 0} (f : A → B) (o : Option A) → map f (option_to_list o) ≡ option_to_list (option_map f o)
map_some f None = refl
map_some f (Some x) = refl

map-ordered : {A B : Type 0} (f : A → B) (ups downs : List (Option A))
    → map f (ordered ups downs) ≡ ordered (map (option_map f) ups) (map (option_map f) downs)
map-ordered f [] downs = refl
map-ordered f (up ∷ ups) [] = refl
map-ordered {A} {B} f (up ∷ ups) (down ∷ downs) =
    map-append f (option_to_list up ++ option_to_list down) (ordered ups downs)
    ∙ ap (λ l. l ++ map f (ordered ups downs)) (map-append f (option_to_list up) (option_to_list down))
    ∙ ap (λ l. l ++ map f (option_to_list down) ++ map f (ordered ups downs)) (map_some f up)
    ∙ ap (λ l. option_to_list (option_map f up) ++ l ++ map f (ordered ups downs)) (map_some f down)
    ∙ ap (λ l. option_to_list (option_map f up) ++ option_to_list (option_map f down) ++ l) (map-ordered f ups downs)

map-reverse : {A B : Type 0} (f : A → B) (xs : List A) → map f (reverse xs) ≡ reverse (map f xs)
map-reverse f [] = refl
map-reverse f (x ∷ xs) =
    ap (map f) (reverse-append (x ∷ []) xs) ∙ map-append f (reverse xs) (x ∷ [])
    ∙ ap (λ l. l ++ f x ∷ []) (map-reverse f xs) ∙ sym (reverse-append (f x ∷ []) (map f xs))

pub map-in_nest_order : {A B : Type 0} (f : A → B) (ups downs : List (Option A))
    → map f (in_nest_order ups downs) ≡ in_nest_order (map (option_map f) ups) (map (option_map f) downs)
map-in_nest_order f ups downs = map-ordered f (reverse ups) downs
    ∙ ap (λ l. ordered l (map (option_map f) downs)) (map-reverse (option_map f) ups)

-- One shell more: the last up and the first down go behind what is in order already.
pub next_in_order : {A : Type 0} (list : List A) (ups left downs : List (Option A)) (up down : Option A) → ups ≡ left
    ++ up ∷ []
    → ((list ++ option_to_list up) ++ option_to_list down) ++ in_nest_order left downs ≡ list
    ++ in_nest_order ups (down ∷ downs)
next_in_order list ups left downs up down e =
    append_assoc (list ++ option_to_list up) (option_to_list down) (in_nest_order left downs)
    ∙ append_assoc list (option_to_list up) (option_to_list down ++ in_nest_order left downs)
    ∙ ap (λ l. list ++ l) (sym (append_assoc (option_to_list up) (option_to_list down) (in_nest_order left downs)))
    ∙ ap (λ l. list ++ l) (sym (ap (λ l. ordered l (down ∷ downs)) (ap reverse e ∙ reverse-append left (up ∷ []))))
