-- One more name, which isn't among the names.
use Rattle.std.proofs.Common.{◌≡◌, ◌≢◌, ℕ, ◌<◌, ◌^◌, List, [], ◌∷◌, ◌++◌, length, map, position, None, bytes_eq, sym, ap, ◌∙◌, true≢false, arith}
use Rattle.std.proofs.lemmas.List.{map_push, length_push}
use Rattle.std.proofs.lemmas.List.Quantifiers.{all_pairs_push}
use Rattle.std.proofs.lemmas.Slice.Eq.{bytes_eq-Decides}
use Rattle.indexmap.specs.IndexSet.{insert_key}
use Rattle.netlist.specs.Names.{IsNames}
use Rattle.netlist.proofs.Places.{position-map, All-from_no_position, insert_key-new}

-- the set has it last
pub names-insert_key : {K : Type 0} (name : K → List ℕ) (keys : List K) (k : K) →
    position (bytes_eq (name k)) (map name keys) ≡ None →
    map name (insert_key (λ a b. bytes_eq (name a) (name b)) keys k) ≡ map name keys ++ name k ∷ []
names-insert_key name keys k none =
    ap (map name) (insert_key-new (λ a b. bytes_eq (name a) (name b)) keys k (sym (position-map name (bytes_eq (name k)) keys) ∙ none)) ∙ map_push name keys k

-- and the names stay distinct
pub IsNames-push : (names : List (List ℕ)) (name : List ℕ) → IsNames names → position (bytes_eq name) names ≡ None →
    length names < 2 ^ 32 → IsNames (names ++ name ∷ [])
IsNames-push names name known none room = record {
  distinct =
      all_pairs_push (λ earlier later. earlier ≢ later) names name known.distinct
      (λ k d h same. true≢false (sym ((bytes_eq-Decides name _).1 (sym same)) ∙ All-from_no_position (bytes_eq name) names none k d h));
  few = omega (arith, length_push names name);
}
