use Rattle.std.proofs.Common.{◌∙◌, ◌<◌, ◌++◌, ℕ, All, IfSome, Option, Vec, ap, length, option_map, sym, subst}
use Rattle.std.specs.declared.alloc.Global.{Global}
use Rattle.std.proofs.lemmas.List.Elements.{All-append}
use Rattle.net_words.proofs.Words.{no_word, one_word}
use Rattle.net_words.proofs.listed.nets_of_words.Goals as goal

pub returns-in_default-clause-nets : goal.returns-in_default-clause-nets
returns-in_default-clause-nets c =
    sym (no_word c.args.netlist.now c.args.words.now c.loop-word.word-index _ c.loop-word-test.true c.loop-word.nets.items
    (sym c.in_ok-more.ensures.nets ∙ ap (option_map (λ (nets : Vec ℕ Global). nets.items)) c.in_default.is))
    ∙ c.loop-word.invariant.nets

pub loop-word-preserved : goal.loop-word-preserved
loop-word-preserved c =
    let netlist = c.args.netlist.now in
    let longer = c.in_ok-extend_from_slice.ensures.items ∙ ap (λ more. c.loop-word.nets.items ++ more) c.as_slice.ensures.value in
    record {
      nets =
          one_word netlist c.args.words.now c.loop-word.word-index _ c.loop-word-test.true c.loop-word.nets.items _ _
          (sym c.in_ok-more.ensures.nets ∙ ap (option_map (λ (nets : Vec ℕ Global). nets.items)) c.in-Some.is) longer
          ∙ c.loop-word.invariant.nets;
      exist =
          subst (All (λ net. net < length netlist.nets)) (sym longer)
          (All-append (λ net. net < length netlist.nets) c.loop-word.nets.items c.in-Some.more.items c.loop-word.invariant.exist
          (subst (λ (found : Option (Vec ℕ Global)). IfSome found (λ (nets : Vec ℕ Global). All (λ net. net < length netlist.nets) nets.items)) c.in-Some.is c.in_ok-more.ensures.exist));
    }
