-- The description of a design, as a text.
use Rattle.std.specs.Prelude.{◌≡◌, ℕ, List, ◌++◌, map}
use Rattle.netlist.specs.Netlist.{name_at}
use Rattle.design.specs.Design.{DesignView}
use Rattle.fanin_cone.specs.Cone.{IsOutsideOf}
use Rattle.circuit_info.specs.Text.{IsInfoText}
use Rattle.circuit_info.specs.PathText.{IsPathText}

-- the text that describes a design: that of its netlist, whose unobserved nets are those outside the cones of its outputs, and then
-- the lines of its longest paths
pub record IsInfoOf (design : DesignView) (text : List ℕ) : Type 0 where
  pub unobserved : List ℕ
  pub counts : List ℕ
  pub paths : List ℕ
  pub outside : IsOutsideOf design.netlist (map (name_at design.netlist) design.netlist.outputs) unobserved
  pub counted : IsInfoText design.netlist unobserved counts
  pub longest : IsPathText design paths
  pub both : text ≡ counts ++ paths
