-- What a reader of a run's dump sees.
use Rattle.std.specs.Prelude.{◌≡◌, ℕ, ◌≤◌, List, Contains, Some}
use Rattle.design.specs.Design.{DesignView}
use Rattle.design.specs.Equations.{value_of}
use Rattle.vcd_dump.specs.Shown.{shown_value}
use Rattle.vcd_dump.specs.Traces.{name_of}
use Rattle.prepared_runs.specs.declared.view.DumpView.{DumpView}
use Rattle.prepared_runs.specs.Source.{shown_nets}

-- for the name of each shown net, at every tick to the horizon, the value that the equations give it
abbrev pub ShowsValues : DumpView → DesignView → List ℕ → Type 0
ShowsValues view design text =
    (net tick : ℕ) → Contains (shown_nets view.show design.netlist) net → tick ≤ view.horizon →
    shown_value text (name_of design.circuit net) tick ≡ Some (value_of design.circuit net tick)
