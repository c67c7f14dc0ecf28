-- The nets of some cones as a netlist of their own, and as a design of their own.
use Rattle.std.specs.Prelude.{◌≡◌, ℕ, ◌<◌, List, length, filter_map, map, position, All, Option, Some}
use Rattle.std.specs.Option.{is_none}
use Rattle.logic3.specs.declared.value.Value.{Value}
use Rattle.netlist.specs.Netlist.{NetlistView, name_at, net_named}
use Rattle.netlist.specs.Repeats.{distinct}
use Rattle.netlist.specs.Pick.{picked}
use Rattle.design.specs.Circuit.{Net}
use Rattle.design.specs.Design.{DesignView, IsDesign}
use Rattle.design.specs.Equations.{value_of}
use Rattle.design.specs.PickedDesign.{picked_design}
use Rattle.fanin_cone.specs.Cone.{IsConeOf}
use Rattle.fanin_cone.specs.Agreement.{net_of, HasSameTiming}

-- the first place of a name that no net has
abbrev pub first_unknown : NetlistView → List (List ℕ) → Option ℕ
first_unknown netlist names = position (λ name. is_none (net_named netlist name)) names

-- the nets in the cones of these names, in their old order, with these names as the outputs, each at its first place
pub record IsExtract (netlist : NetlistView) (names : List (List ℕ)) (extract : NetlistView) : Type 0 where
  pub keep : List ℕ
  pub cone : IsConeOf netlist names keep
  pub picked_so : extract ≡ picked netlist keep (distinct (filter_map (net_named netlist) names))

-- each net of the extract has the timing that the net with its name has in the whole
abbrev pub KeepsTiming : DesignView → DesignView → ℕ → Type 0
KeepsTiming whole extract horizon =
    (name : List ℕ) (x y : Net) → net_of extract name ≡ Some x → net_of whole name ≡ Some y → HasSameTiming horizon x y

-- a design of the extract of another one for these names, with the timing that its nets have there
pub record IsDesignOfExtract (whole extract : DesignView) (names : List (List ℕ)) (horizon : ℕ) : Type 0 where
  pub first : IsDesign whole
  pub second : IsDesign extract
  pub nets : IsExtract whole.netlist names extract.netlist
  pub timing : KeepsTiming whole extract horizon

-- the numbers are those of nets
abbrev pub AreNets : DesignView → List ℕ → Type 0
AreNets design nets = All (λ net. net < length design.netlist.nets) nets

-- the names of these nets
abbrev pub names_in : DesignView → List ℕ → List (List ℕ)
names_in design nets = map (name_at design.netlist) nets

-- what these nets show at each tick
abbrev pub signals_in : DesignView → List ℕ → List (ℕ → Value)
signals_in design nets = map (value_of design.circuit) nets

-- the nets in the cones of these nets, with their timing and stimuli, in their old order, and these nets as the outputs, in this
-- order
pub record IsDesignOfCones (whole : DesignView) (nets : List ℕ) (part : DesignView) : Type 0 where
  pub first : IsDesign whole
  pub second : IsDesign part
  pub keep : List ℕ
  pub cone : IsConeOf whole.netlist (map (name_at whole.netlist) nets) keep
  pub picked_so : part ≡ picked_design whole keep nets
