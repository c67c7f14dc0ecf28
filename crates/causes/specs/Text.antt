-- Causes as text, one line each.
use Rattle.std.specs.Prelude.{ℕ, ◌==◌, if◌then◌else◌, List, [], ◌++◌, flat_map, codes, decimal, Option, None, Some, slice_get}
use Rattle.std.specs.List.{zip}
use Rattle.std.specs.Option.{option_map_or}
use Rattle.texts.specs.Written.{numbered}
use Rattle.logic3.specs.declared.value.Value.{Value}
use Rattle.logic3.specs.Value.{value_text}
use Rattle.netlist.specs.Netlist.{net_at, name_at}
use Rattle.bench_text.specs.Canonical.{canonical_line, net_statement}
use Rattle.design.specs.Circuit.{Net}
use Rattle.design.specs.Design.{DesignView}
use Rattle.design.specs.Equations.{value_of}
use Rattle.design.specs.Samples.{asked_tick, source_tick}
use Rattle.causes.specs.declared.cause.Cause.{Cause}
use Rattle.causes.specs.declared.cause.Reason.{Reason}
use Rattle.causes.specs.declared.cause.Reason.TheVariants.{Pin, Stimulus, NoStimulus, BeforeDelay, BeforeFirstSample, BeforeWire, Swings}
use Rattle.causes.specs.Causes.{causes_of}

-- a name at a tick, such as `y@7`
abbrev pub moment_text : List ℕ → ℕ → List ℕ
moment_text name tick = name ++ codes "@" ++ decimal tick

-- what it shows there, such as `y@7 = 1`
abbrev pub shown_text : List ℕ → ℕ → Value → List ℕ
shown_text name tick value = moment_text name tick ++ codes " = " ++ value_text value

-- since when it shows that, if not only since this tick, such as ` since 5`
abbrev pub since_text : ℕ → ℕ → List ℕ
since_text tick since = if since == tick then [] else numbered (codes " since ") since

-- what a pin shows: its source at the tick of it that the pin shows, and `a = x` before its wire delay is over
abbrev pub pin_text : DesignView → ℕ → ℕ × ℕ → List ℕ
pin_text design asked (pin, wire) =
    codes ", "
    ++ option_map_or (λ at. shown_text (name_at design.netlist pin) at (value_of design.circuit pin at)) (source_tick wire asked)
    (name_at design.netlist pin ++ codes " = x")

-- what the pins of a net show at the tick at which it reads them
abbrev pub pins_text : DesignView → List ℕ → List ℕ → ℕ → List ℕ
pins_text design pins wires asked = flat_map (pin_text design asked) (zip pins wires)

abbrev pub looks_text : DesignView → Option Net → ℕ → List ℕ
looks_text design None tick = []
looks_text design (Some net) tick = option_map_or (pins_text design net.pins net.wires) (asked_tick net tick) []

-- the stimulus of an input, as in a stimulus text
abbrev pub stimulus_text : List ℕ → Value → ℕ → List ℕ
stimulus_text name value tick = codes ", stimulus " ++ decimal tick ++ codes " " ++ name ++ codes " " ++ value_text value

-- since when it swings, and after how many ticks each value comes again
abbrev pub swings_text : ℕ → ℕ → List ℕ
swings_text start period = numbered (codes ", swings since ") start ++ numbered (codes " with period ") period

-- the reason, after the statement of the net
abbrev pub reason_text : DesignView → Cause → Reason → List ℕ
reason_text design cause (Pin place) = looks_text design (slice_get design.circuit cause.net) cause.at
reason_text design cause (BeforeWire place) =
    looks_text design (slice_get design.circuit cause.net) cause.at ++ codes ", before the delay of a wire is over"
reason_text design cause (Stimulus tick) = stimulus_text (name_at design.netlist cause.net) cause.value tick
reason_text design cause NoStimulus = codes ", no stimulus yet"
reason_text design cause BeforeDelay = codes ", before its delay is over"
reason_text design cause BeforeFirstSample = codes ", before its first sample shows"
reason_text design cause (Swings start period) =
    looks_text design (slice_get design.circuit cause.net) cause.at ++ swings_text start period

-- the line of a cause: what the net shows and since when, its statement, and why
abbrev pub cause_line : DesignView → Cause → List ℕ
cause_line design cause =
    shown_text (name_at design.netlist cause.net) cause.tick cause.value ++ since_text cause.tick cause.since ++ codes ": "
    ++ canonical_line (net_statement design.netlist (net_at design.netlist cause.net)) ++ reason_text design cause cause.reason ++ codes "\n"

-- the lines of the causes of a net's value at a tick
unfoldable pub why_text : DesignView → ℕ → ℕ → List ℕ
why_text design net tick = flat_map (cause_line design) (causes_of design.circuit net tick)
