-- The shown nets, place by place.
use Rattle.std.proofs.Common.{◌≡◌, ℕ, suc, ◌+◌, List, [], ◌∷◌, ◌++◌, length, map, flat_map, Option, None, Some, slice_get, option_map, refl, ap, sym, ◌∙◌, arith}
use Rattle.std.specs.List.{enumerate_from, range_with_len}
use Rattle.std.specs.Option.{option_map_or}
use Rattle.logic3.specs.declared.value.Value.{Value}
use Rattle.logic3.specs.declared.value.Value.TheVariants.{Unknown}
use Rattle.design.specs.Circuit.{Net, Circuit}
use Rattle.vcd_dump.specs.Codes.{code_at}
use Rattle.vcd_dump.specs.Dump.{Variable, variable_at, variables_of, declaration, declaration_text}
use Rattle.vcd_dump.specs.Traces.{name_of, named}
use Rattle.vcd_dump.proofs.Between.{between}

-- what is shown at a place: a name and a signal of what stands there
abbrev pub shown_at : {X : Type 0} → (X → List ℕ × (ℕ → Value)) → List X → ℕ → Variable
shown_at shows xs place = record {
  code = code_at place;
  name = option_map_or (λ x. (shows x).0) (slice_get xs place) [];
  signal = option_map_or (λ x. (shows x).1) (slice_get xs place) (λ tick. Unknown);
}

by_place : {X : Type 0} (shows : X → List ℕ × (ℕ → Value)) (text : Variable → List ℕ) (all : List X) (first : ℕ) (xs : List X) →
    ((place : ℕ) → slice_get all (first + place) ≡ slice_get xs place) →
    flat_map text (map variable_at (enumerate_from first (map shows xs))) ≡ flat_map (λ place. text (shown_at shows all place))
    (range_with_len first (length xs))
by_place shows text all first [] same = refl
by_place {X = X} shows text all first (x ∷ xs) same =
    let here : slice_get all first ≡ Some x = ap (slice_get all) (omega arith) ∙ same 0 in
    let behind = by_place shows text all (first + 1) xs (λ place. ap (slice_get all) (omega arith) ∙ same (suc place)) in
    ap (λ (entry : Option X). text
    (record {
      code = code_at first;
      name = option_map_or (λ y. (shows y).0) entry [];
      signal = option_map_or (λ y. (shows y).1) entry
          (λ tick. Unknown);
    })
    ++ flat_map text (map variable_at (enumerate_from (first + 1) (map shows xs)))) (sym here)
    ∙ ap (λ rest. text (shown_at shows all first) ++ rest) behind

-- the texts of variables, by place
pub flat_map-variables_of : {X : Type 0} (shows : X → List ℕ × (ℕ → Value)) (text : Variable → List ℕ) (xs : List X) →
    flat_map text (variables_of (map shows xs)) ≡ between (λ place. text (shown_at shows xs place)) 0 (length xs)
flat_map-variables_of shows text xs =
    by_place shows text xs 0 xs (λ place. ap (slice_get xs) (omega arith))
    ∙ ap (λ n. flat_map (λ place. text (shown_at shows xs place)) (range_with_len 0 n)) (omega arith)

-- the shown net at a place, without its signal
abbrev pub named_at : Circuit → List ℕ → ℕ → Variable
named_at circuit shown place = shown_at (λ net. (name_of circuit net, λ tick. Unknown)) shown place

-- the declarations, by place
pub declarations-named : (circuit : Circuit) (shown : List ℕ) →
    flat_map declaration (named circuit shown) ≡ between (λ place. declaration (named_at circuit shown place)) 0 (length shown)
declarations-named circuit shown = flat_map-variables_of (λ net. (name_of circuit net, λ tick. Unknown)) declaration shown

-- the name at a place
pub declaration-named_at : (circuit : Circuit) (shown : List ℕ) (place net : ℕ) (name : List ℕ) → slice_get shown place ≡ Some net →
    option_map (λ (n : Net). n.name) (slice_get circuit net) ≡ Some name → declaration (named_at circuit shown place) ≡ declaration_text
    (code_at place) name
declaration-named_at circuit shown place net name at is =
    ap (λ entry. declaration_text (code_at place) (option_map_or (name_of circuit) entry [])) at ∙ ap (declaration_text (code_at place))
    (go (slice_get circuit net) is)
  where
    go : (entry : Option Net) → option_map (λ (n : Net). n.name) entry ≡ Some name → option_map_or (λ (n : Net). n.name) entry [] ≡ name
    go None e = cc
    go (Some n) e = cc
