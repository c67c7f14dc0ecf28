-- Notes as text, a line each.
use Rattle.std.specs.Prelude.{ℕ, ◌-◌, ◌==◌, nat_le, if◌then◌else◌, List, [], ◌++◌, codes, decimal, flat_map, length, take}
use Rattle.netlist.specs.Netlist.{NetlistView}
use Rattle.netlist.specs.Text.{names_behind}
use Rattle.design.specs.Design.{DesignView}
use Rattle.circuit_info.specs.Periods.{late_flops}
use Rattle.prepared_runs.specs.Source.{SourceView}
use Rattle.plain_runs.specs.declared.remark.Remark.{Remark}
use Rattle.plain_runs.specs.declared.remark.Remark.TheVariants.{Undriven, Late, Unknown}
use Rattle.plain_runs.specs.declared.doubt.Doubt.{Doubt}
use Rattle.plain_runs.specs.declared.doubt.Doubt.TheVariants.{Delay, HiddenWord, Stimulus}
use Rattle.plain_runs.specs.declared.likeness.Likeness.{Likeness}
use Rattle.plain_runs.specs.declared.likeness.Likeness.TheVariants.{Bus, Comment, Marked}
use Rattle.plain_runs.specs.Likenesses.{lines_like, nets_like, said_of}
use Rattle.plain_runs.specs.Lines.{doubtful_lines}
use Rattle.plain_runs.specs.Remarks.{noted_nets}
use Rattle.plain_runs.specs.Unused.{has_flops, unused_inputs}

-- what a line says of the nets that it names
abbrev pub words_of : Remark → List ℕ
words_of Undriven = codes "inputs without a stimulus, X throughout"
words_of Late = codes "inputs whose stimuli after the horizon are ignored"
words_of Unknown = codes "other nets that are X throughout"

-- the most names in a line
abbrev pub most_names : ℕ
most_names = 12

-- the names of these nets; of more than a dozen only the first dozen, and the number of the others
abbrev pub first_names : NetlistView → List ℕ → List ℕ
first_names netlist nets =
    if nat_le (length nets) most_names then names_behind netlist nets
    else (names_behind netlist (take most_names nets) ++ codes " and " ++ decimal (length nets - most_names) ++ codes " more")

-- the line that names some nets, with what follows the names; none if there are no nets
abbrev pub nets_note : NetlistView → List ℕ → List ℕ → List ℕ → List ℕ
nets_note netlist words nets after =
    if length nets == 0 then [] else (codes "note: " ++ words ++ codes ":" ++ first_names netlist nets ++ after ++ codes "\n")

-- the line that there are no outputs, if so
abbrev pub outputs_note : NetlistView → List ℕ
outputs_note netlist = if length netlist.outputs == 0 then codes "note: no net is an output\n" else []

-- the line of a remark
abbrev pub remark_note : Remark → ℕ → DesignView → List ℕ
remark_note remark horizon design = nets_note design.netlist (words_of remark) (noted_nets remark horizon design.circuit) []

-- what follows the names of unused inputs: when flip-flops sample, if there are any
abbrev pub sampling : NetlistView → List ℕ
sampling netlist = if has_flops netlist then codes "; flip-flops sample by --period or clock lines" else []

-- the line of the inputs that nothing uses
abbrev pub unused_note : NetlistView → List ℕ
unused_note netlist = nets_note netlist (codes "unused inputs") (unused_inputs netlist) (sampling netlist)

-- the line of the flip-flops whose period is too short for the longest path to their pin
abbrev pub late_flops_note : DesignView → List ℕ
late_flops_note design =
    nets_note design.netlist (codes "flip-flops whose period is shorter than the longest path to them") (late_flops design)
    (codes "; nullsim info prints the longest")

-- ---- lines

-- the numbers of lines, with a space before each
abbrev pub numbers_behind : List ℕ → List ℕ
numbers_behind numbers = flat_map (λ number. codes " " ++ decimal number) numbers

-- the first dozen of these numbers, and how many others there are
abbrev pub first_numbers : List ℕ → List ℕ
first_numbers numbers =
    if nat_le (length numbers) most_names then numbers_behind numbers
    else (numbers_behind (take most_names numbers) ++ codes " and " ++ decimal (length numbers - most_names) ++ codes " more")

-- the line with the numbers of some lines; none if there are no such lines
abbrev pub lines_note : List ℕ → List ℕ → List ℕ
lines_note words numbers =
    if length numbers == 0 then [] else (codes "note: " ++ words ++ codes ":" ++ first_numbers numbers ++ codes "\n")

-- the line of the doubtful lines of a text
abbrev pub doubt_note : List ℕ → Doubt → DesignView → List ℕ → List ℕ
doubt_note words doubt design text = lines_note words (doubtful_lines doubt design text)

-- ---- names

abbrev pub in_lines : List ℕ → List ℕ
in_lines numbers = if length numbers == 1 then codes ", in line" else codes ", in lines"

-- the lines of the .bench text that define some nets
abbrev pub lines_after : List ℕ → List ℕ
lines_after numbers = in_lines numbers ++ first_numbers numbers ++ codes " of the .bench text"

-- the line of the nets whose names look so, with the lines of the .bench text that define such nets
abbrev pub likeness_note : NetlistView → List ℕ → Likeness → List ℕ
likeness_note netlist text likeness =
    nets_note netlist (said_of likeness) (nets_like netlist likeness) (lines_after (lines_like likeness text))

abbrev pub notes_of_names : NetlistView → List ℕ → List ℕ
notes_of_names netlist text =
    likeness_note netlist text Comment ++ likeness_note netlist text Marked ++ likeness_note netlist text Bus

-- ---- a run

-- all that is noted of a run to a horizon
unfoldable pub notes_of_design : ℕ → DesignView → List ℕ
notes_of_design horizon design =
    outputs_note design.netlist ++ remark_note Undriven horizon design ++ remark_note Late horizon design ++ unused_note design.netlist
    ++ remark_note Unknown horizon design ++ late_flops_note design

-- what is noted of the texts of a design
unfoldable pub notes_of_texts : SourceView → DesignView → List ℕ
notes_of_texts source design =
    notes_of_names design.netlist source.bench
    ++ doubt_note (codes "lines of the .bench text whose comments hide words after a carriage return") HiddenWord design source.bench
    ++ doubt_note (codes "lines of the delay text whose comments hide words after a carriage return") HiddenWord design source.delays
    ++ doubt_note (codes "lines of the stimulus text whose comments hide words after a carriage return") HiddenWord design source.stimuli
    ++ doubt_note (codes "lines of the delay text that # makes comments, with delays for nets that have no delay line") Delay design source.delays
    ++ doubt_note (codes "lines of the stimulus text that # makes comments, with stimuli for inputs that have none") Stimulus design source.stimuli
