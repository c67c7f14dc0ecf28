-- What belongs to each of the texts of a run.
use Rattle.std.specs.Prelude.{ℕ, List, codes}
use denote.Ref.{Bor}
use Rattle.prepared_runs.specs.declared.run_texts.RunTexts.{RunTexts}

-- the same of each of them
abbrev pub on_each : {A B : Type 0} → (A → B) → RunTexts A → RunTexts B
on_each f texts = record {
  bench = f texts.bench;
  delays = f texts.delays;
  stimuli = f texts.stimuli;
  schedule = f texts.schedule;
}

-- the names of the texts
abbrev pub Names : Type 0
Names = RunTexts (List ℕ)

-- what references refer to
abbrev pub seen : RunTexts (Bor (List ℕ)) → RunTexts (List ℕ)
seen texts = on_each (λ (text : Bor (List ℕ)). text.now) texts

-- the sections of a deck, named by the words of their markers
abbrev pub section_names : Names
section_names = record { bench = codes "bench"; delays = codes "delays"; stimuli = codes "stimuli"; schedule = codes "schedule" }
