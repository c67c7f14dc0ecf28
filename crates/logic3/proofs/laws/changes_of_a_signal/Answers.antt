use Rattle.logic3.specs.Wave.{value_before, changes_between, IsChangeOf}
use Rattle.logic3.proofs.Waves.{Contains-wave_of_iff, AllPairs-Alternates, IsWave-wave_of}
use Rattle.logic3.proofs.laws.changes_of_a_signal.Goals as goal

pub returns-clause-changes : goal.returns-clause-changes
returns-clause-changes c signal from to change =
    let iff = Contains-wave_of_iff signal from to change.tick change.value in (
      λ found. let is = iff.0 found in record { from_start = is.0; before_end = is.1; shown = is.2; differs = is.3 },
      λ (is : IsChangeOf signal from to change). iff.1 (is.from_start, is.before_end, is.shown, is.differs),
    )

pub returns-clause-rise : goal.returns-clause-rise
returns-clause-rise c signal from to =
    AllPairs-Alternates (value_before signal from) 0 (changes_between signal from to) (IsWave-wave_of signal from to)

pub returns-clause-is_wave : goal.returns-clause-is_wave
returns-clause-is_wave c = IsWave-wave_of
