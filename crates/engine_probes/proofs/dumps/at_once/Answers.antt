use Rattle.std.proofs.Common.{◌≡◌, List, length, IfOk, All, sym, subst, arith}
use Rattle.logic3.specs.declared.change.Change.{Change}
use Rattle.vcd_dump.specs.Spans.{StreamView, IsPart, IsSpan, begun, changes_in}
use Rattle.engine_probes.proofs.dumps.at_once.Goals as goal

-- a new stream of two nets takes the changes of both up to its horizon
of_both : (stream : StreamView) (parts : List (List Change)) → stream ≡ begun 2 12 → length parts ≡ 2 → All (IsPart 0 13) parts → IsSpan stream 13 parts
of_both stream parts is both each =
    subst (λ (s : StreamView). IsSpan s 13 parts) (sym is) (record { ahead = omega arith; within = omega arith; each = both; proper = each })

pub span-requires : goal.span-requires
span-requires g c = λ running.
    let made = c.in_ok-parts.ensures in
    of_both c.in_ok-stream.stream (changes_in c.in_ok-parts.parts) c.in_ok-stream.ensures
    (subst (λ result. IfOk result (λ parts. length (changes_in parts) ≡ 2)) made c.parts.ensures.both)
    (subst (λ result. IfOk result (λ parts. All (IsPart 0 13) (changes_in parts))) made c.parts.ensures.each)
