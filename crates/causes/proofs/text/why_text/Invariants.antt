use Rattle.std.proofs.Common.{◌≡◌, ◌++◌, drop, flat_map}
use Rattle.causes.specs.Text.{cause_line}
use Rattle.causes.proofs.text.why_text.Given as goal

-- the lines so far and those left are all
abbrev pub invariant-loop-cause : goal.invariant-loop-cause
invariant-loop-cause l =
    l.text.items ++ flat_map (cause_line l.design) (drop l.cause-index l.cause-items) ≡ flat_map (cause_line l.design) l.cause-items
