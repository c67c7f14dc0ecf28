-- Two designs, and on which nets' fan-in cones they agree.
use Rattle.std.specs.Prelude.{◌≡◌, ℕ, ◌<◌, ◌↔◌, Bool, IsTrue, List, [], ◌∷◌, length, All, Contains, ◌⊎◌}
use Rattle.netlist.specs.Netlist.{name_at}
use Rattle.design.specs.Design.{DesignView}
use Rattle.fanin_cone.specs.Agreement.{AgreesAt, AgreesOn}
use Rattle.fanin_cone.specs.Cone.{InCone}
use Rattle.fanin_cone.specs.Walk.{is_marked}

-- they agree at the name of a net
abbrev pub AgreesAtNet : DesignView → DesignView → ℕ → ℕ → Type 0
AgreesAtNet a b horizon net = AgreesAt a b horizon (name_at a.netlist net)

-- they agree on the cone that a net has in the first
abbrev pub AgreesOnConeOf : DesignView → DesignView → ℕ → ℕ → Type 0
AgreesOnConeOf a b horizon net = AgreesOn a b (InCone a.netlist (name_at a.netlist net ∷ [])) horizon

-- the nets at whose names they don't agree, of those with numbers below a count
pub record AreDiffering (a b : DesignView) (horizon count : ℕ) (numbers : List ℕ) : Type 0 where
  pub within : All (λ net. net < length a.circuit) numbers
  pub differ : All (λ net. AgreesAtNet a b horizon net → ⊥) numbers
  pub agree : (net : ℕ) → net < count → Contains numbers net ⊎ AgreesAtNet a b horizon net

-- exactly the nets on whose cones they agree are marked
pub record MarksAgreeing (a b : DesignView) (horizon : ℕ) (marks : List Bool) : Type 0 where
  pub size : length marks ≡ length a.circuit
  pub each : (net : ℕ) → net < length a.circuit → IsTrue (is_marked marks net) ↔ AgreesOnConeOf a b horizon net
