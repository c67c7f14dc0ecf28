-- Two designs that agree on a set of names.
use Rattle.std.specs.Prelude.{◌≡◌, ℕ, ◌≤◌, List, find, Option, Some, IsSome, bytes_eq}
use Rattle.logic3.specs.Wave.{changes_until}
use Rattle.netlist.specs.Netlist.{net_named}
use Rattle.design.specs.Circuit.{Net}
use Rattle.design.specs.Design.{DesignView, IsDesign}
use Rattle.design.specs.Equations.{value_of}
use Rattle.fanin_cone.specs.Cone.{pin_names}

-- the net with a name
abbrev pub net_of : DesignView → List ℕ → Option Net
net_of design name = find (λ (net : Net). bytes_eq net.name name) design.circuit

-- the design has a net with this name
abbrev pub HasNet : DesignView → List ℕ → Type 0
HasNet design name = IsSome (net_of design name)

-- the same delay, for a flip-flop the same clock and initial value, the same wire delays at the pins in order, and the same
-- stimuli up to the horizon
pub record HasSameTiming (horizon : ℕ) (x y : Net) : Type 0 where
  pub timing : x.timing ≡ y.timing
  pub wires : x.wires ≡ y.wires
  pub stimuli : changes_until horizon x.stimuli ≡ changes_until horizon y.stimuli

-- the same part, pin names in order, and timing; numbers play no part
pub record IsSameNet (a b : DesignView) (horizon : ℕ) (x y : Net) : Type 0 where
  pub part : x.part ≡ y.part
  pub pins : pin_names a.netlist x.pins ≡ pin_names b.netlist y.pins
  pub timing : HasSameTiming horizon x y

-- the name is a net of both designs, the same except for its number
pub record AgreesAt (a b : DesignView) (horizon : ℕ) (name : List ℕ) : Type 0 where
  pub x : Net
  pub y : Net
  pub first : net_of a name ≡ Some x
  pub second : net_of b name ≡ Some y
  pub same : IsSameNet a b horizon x y

-- each name of the set is such a net
abbrev pub AgreesOn : DesignView → DesignView → (List ℕ → Type 0) → ℕ → Type 0
AgreesOn a b K horizon = (name : List ℕ) → K name → AgreesAt a b horizon name

-- two designs that agree on a set of names
pub record DesignsAgree (a b : DesignView) (K : List ℕ → Type 0) (horizon : ℕ) : Type 0 where
  pub first : IsDesign a
  pub second : IsDesign b
  pub agree : AgreesOn a b K horizon

-- the nets with one name in two designs show the same, at each tick up to the horizon
abbrev pub ShowTheSame : DesignView → DesignView → ℕ → List ℕ → Type 0
ShowTheSame a b horizon name =
    (m n tick : ℕ) → net_named a.netlist name ≡ Some m → net_named b.netlist name ≡ Some n → tick ≤ horizon →
    value_of a.circuit m tick ≡ value_of b.circuit n tick

-- so it is for each name of a set
abbrev pub ShowTheSameOn : DesignView → DesignView → (List ℕ → Type 0) → ℕ → Type 0
ShowTheSameOn a b K horizon = (name : List ℕ) → K name → ShowTheSame a b horizon name
