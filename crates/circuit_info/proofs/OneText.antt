-- One text at most tells what a netlist is.
use Rattle.std.proofs.Common.{◌≡◌, ℕ, ◌<◌, List, [], ◌++◌, length, get_or, codes, decimal, sym, ap, ◌∙◌, subst, arith, ⊎_elim}
use Rattle.std.proofs.lemmas.Bool.{cases_lt, cases_eq}
use Rattle.std.proofs.lemmas.List.{ext_get_or}
use Rattle.netlist.specs.Netlist.{NetlistView, name_at}
use Rattle.circuit_info.specs.Counts.{IsFanOuts, IsFirstGreatest}
use Rattle.circuit_info.specs.Levels.{greatest}
use Rattle.circuit_info.specs.Text.{count_line, loop_line, size_lines, gate_lines, unobserved_lines, IsGreatestLine, IsDepthLine, by_levels, by_loop, IsInfoText}
use Rattle.circuit_info.proofs.Levelling.{one_levelling, no_loop}
use Rattle.circuit_info.proofs.NamedLoops.{one_named_loop, IsGateLoop-named}

not_before : (numbers : List ℕ) (place other : ℕ) → IsFirstGreatest numbers place → IsFirstGreatest numbers other → place < other → ⊥
not_before numbers place other a b before = omega (arith, b.first place before, a.greatest other b.within)

pub one_first_greatest : (numbers : List ℕ) (place other : ℕ) → IsFirstGreatest numbers place → IsFirstGreatest numbers other → place ≡ other
one_first_greatest numbers place other a b = ⊎_elim
    (λ same. same)
    (λ apart. absurd (⊎_elim
    (λ less. not_before numbers place other a b less)
    (λ past. not_before numbers other place b a (omega (arith, past, apart)))
    (cases_lt place other)))
    (cases_eq place other)

module _ (netlist : NetlistView) where
  one_fan_outs : (counts others : List ℕ) → IsFanOuts netlist counts → IsFanOuts netlist others → counts ≡ others
  one_fan_outs counts others a b = ext_get_or 0 counts others (a.size ∙ sym b.size) (λ net within.
      let below : net < length netlist.nets = omega (arith, within, a.size) in
      a.each net below ∙ sym (b.each net below))

  one_greatest_line : (word numbers line other : List ℕ) → IsGreatestLine netlist word numbers line → IsGreatestLine netlist word numbers other → line ≡ other
  one_greatest_line word numbers line other a b =
      a.says
      ∙ ap (λ net. word ++ codes " " ++ decimal (get_or numbers net 0) ++ codes " " ++ name_at netlist net ++ codes "\n")
      (one_first_greatest numbers a.net b.net a.first b.first)
      ∙ sym b.says

  one_depth_line : (line other : List ℕ) → IsDepthLine netlist line → IsDepthLine netlist other → line ≡ other
  one_depth_line line other (by_levels levels ok says) (by_levels others also too) =
      says ∙ ap (λ levels. count_line (codes "levels") (greatest levels)) (one_levelling netlist levels others ok also) ∙ sym too
  one_depth_line line other (by_levels levels ok says) (by_loop nets is too) = absurd (no_loop netlist levels nets ok (IsGateLoop-named netlist nets is))
  one_depth_line line other (by_loop nets is says) (by_levels levels ok too) = absurd (no_loop netlist levels nets ok (IsGateLoop-named netlist nets is))
  one_depth_line line other (by_loop nets is says) (by_loop others also too) =
      says ∙ ap (loop_line netlist) (one_named_loop netlist nets others is also) ∙ sym too

-- what is added behind nothing, one after the other
pub joined : (t t1 t2 t3 t4 t5 t6 a b c d e f : List ℕ) → t ≡ [] → t1 ≡ t ++ a → t2 ≡ t1 ++ b → t3 ≡ t2 ++ c → t4 ≡ t3 ++ d → t5 ≡ t4 ++ e →
    t6 ≡ t5 ++ f → t6 ≡ a ++ b ++ c ++ d ++ e ++ f
joined t t1 t2 t3 t4 t5 t6 a b c d e f none first second third fourth fifth sixth =
    sixth ∙ ap (λ t. t ++ f) (fifth ∙ ap (λ t. t ++ e) (fourth ∙ ap (λ t. t ++ d)
    (third ∙ ap (λ t. t ++ c) (second ∙ ap (λ t. t ++ b) (first ∙ ap (λ t. t ++ a) none)))))

-- the whole text of its lines
abbrev whole : NetlistView → List ℕ → List ℕ → List ℕ → List ℕ → List ℕ
whole netlist unobserved fan_in fan_out depth = size_lines netlist ++ gate_lines netlist ++ fan_in ++ fan_out ++ depth ++ unobserved_lines netlist unobserved

pub one_info_text : (netlist : NetlistView) (unobserved text other : List ℕ) →
    IsInfoText netlist unobserved text → IsInfoText netlist unobserved other → text ≡ other
one_info_text netlist unobserved text other a b =
    let outs = one_fan_outs netlist a.fan_outs b.fan_outs a.counted b.counted in
    let fan_in = one_greatest_line netlist _ _ a.fan_in_line b.fan_in_line a.fan_in b.fan_in in
    let fan_out = one_greatest_line netlist (codes "fan-out") b.fan_outs a.fan_out_line b.fan_out_line
    (subst (λ outs. IsGreatestLine netlist (codes "fan-out") outs a.fan_out_line) outs a.fan_out) b.fan_out in
    let depth = one_depth_line netlist a.depth_line b.depth_line a.depth b.depth in
    a.lines
    ∙ ap (λ line. whole netlist unobserved line a.fan_out_line a.depth_line) fan_in
    ∙ ap (λ line. whole netlist unobserved b.fan_in_line line a.depth_line) fan_out
    ∙ ap (λ line. whole netlist unobserved b.fan_in_line b.fan_out_line line) depth
    ∙ sym b.lines
