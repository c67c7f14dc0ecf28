-- The message about a name that no fault has.
use Rattle.std.specs.Prelude.{ℕ, List, ◌++◌, flat_map, map, codes, Option, None, Some}
use Rattle.explanations.specs.declared.explanation.Explanation.{Explanation}
use Rattle.explanations.specs.declared.table.Table.{Table}
use Rattle.mistakes.specs.Near.{near_among}

-- the names of the faults of a table, and of all tables
abbrev pub names_in : List Explanation → List (List ℕ)
names_in table = map (λ (one : Explanation). one.name.now) table

abbrev pub fault_names : List Table → List (List ℕ)
fault_names tables = flat_map (λ (table : Table). names_in table.explanations.now) tables

-- the only name near to it, or how to list all names
abbrev pub hint_told : Option (List ℕ) → List ℕ
hint_told None = codes "'; 'nullsim explain' lists the names"
hint_told (Some near) = codes "'; did you mean " ++ near ++ codes "?"

abbrev pub unknown_fault : List Table → List ℕ → List ℕ
unknown_fault tables name = codes "no fault is named '" ++ name ++ hint_told (near_among name (fault_names tables))
