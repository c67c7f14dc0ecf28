-- Readings that come one behind the other.
use Rattle.std.proofs.Common.{◌≡◌, ℕ, List, [], ◌∷◌, ◌++◌, map, None, Some, refl, ap, sym, subst, ◌∙◌, append_assoc}
use Rattle.std.proofs.lemmas.List.{map-append}
use Rattle.program_io.specs.declared.input.ReadFault.{ReadFault}
use Rattle.program_io.specs.declared.program_fault.ProgramFault.{ProgramFault}
use Rattle.program_io.specs.Readings.{AddsReadings, KnownReadings, Reading, ReadsAll, StopsAt, StopsBy, well_read, with_more}

with_more-twice : (known : KnownReadings) (first second : List Reading) → with_more (with_more known first) second ≡ with_more known (first ++ second)
with_more-twice None first second = refl
with_more-twice (Some readings) first second = ap Some (append_assoc readings first second)

AddsReadings-more : (old mid new : KnownReadings) (first second : List Reading) → AddsReadings old mid first → AddsReadings mid new second →
    AddsReadings old new (first ++ second)
AddsReadings-more old mid None first second one other = tt
AddsReadings-more old None (Some now) first second one other = cc
AddsReadings-more old (Some earlier) (Some now) first second one other =
    sym (with_more-twice old first second) ∙ ap (λ known. with_more known second) one ∙ other

pub ReadsAll-append : (first second : List (List ℕ)) (old mid new : KnownReadings) → ReadsAll first old mid → ReadsAll second mid new →
    ReadsAll (first ++ second) old new
ReadsAll-append first second old mid new one other =
    subst (AddsReadings old new) (sym (map-append well_read first second))
    (AddsReadings-more old mid new (map well_read first) (map well_read second) one other)

-- one of the first files could not be read
StopsAt-longer : (first second : List (List ℕ)) (old new : KnownReadings) (name : List ℕ) (fault : ReadFault) → StopsAt first old new name fault →
    StopsAt (first ++ second) old new name fault
StopsAt-longer first second old new name fault (before, (behind, are, ends)) =
    (before, (behind ++ second, ap (λ files. files ++ second) are ∙ append_assoc before (name ∷ behind) second, ends))

-- one of the files behind them
StopsAt-after : (first second : List (List ℕ)) (old mid new : KnownReadings) (name : List ℕ) (fault : ReadFault) → ReadsAll first old mid →
    StopsAt second mid new name fault → StopsAt (first ++ second) old new name fault
StopsAt-after first second old mid new name fault one (before, (behind, are, ends)) =
    let last : List Reading = record { name = name; fault = Some fault } ∷ [] in (
      first ++ before,
      (
        behind,
        ap (λ files. first ++ files) are ∙ sym (append_assoc first before (name ∷ behind)),
        subst (AddsReadings old new)
            (sym (append_assoc (map well_read first) (map well_read before) last) ∙ ap (λ readings. readings ++ last) (sym (map-append well_read first before)))
            (AddsReadings-more old mid new (map well_read first) (map well_read before ++ last) one ends),
      ),
    )

module _ (first second : List (List ℕ)) where
  pub StopsBy-longer : (old new : KnownReadings) (fault : ProgramFault) → StopsBy first old new fault → StopsBy (first ++ second) old new fault
  StopsBy-longer old new fault (name, (failed, is, at)) = (name, (failed, is, StopsAt-longer first second old new name.now failed at))

  pub StopsBy-after : (old mid new : KnownReadings) (fault : ProgramFault) → ReadsAll first old mid → StopsBy second mid new fault →
      StopsBy (first ++ second) old new fault
  StopsBy-after old mid new fault one (name, (failed, is, at)) = (name, (failed, is, StopsAt-after first second old mid new name.now failed one at))
