-- The wiring of lines, one after another.
use Rattle.std.proofs.Common.{◌≡◌, [], ℕ, ◌+◌, ◌<◌, not, Bool, true, false, cond, ltb, List, ◌∷◌, ◌++◌, map, length, get_or, drop, position, Option, Some, None, option_map, Result, Ok, Err, bytes_eq, append_assoc, refl, sym, ap, ◌∙◌}
use Rattle.smallvec.specs.SmallVec.{SmallVec}
use Rattle.std.specs.List.{flat_map}
use Rattle.std.specs.Option.{option_or, ok_or}
use Rattle.std.proofs.lemmas.List.Folds.{find-append}
use Rattle.std.proofs.lemmas.List.{at_drop_more, map_push}
use denote.Ref.{Bor}
use Rattle.netlist.specs.declared.part.Part.{Part}
use Rattle.bench_text.specs.declared.fault.BenchFault.{BenchFault}
use Rattle.bench_text.specs.declared.fault.BenchFault.TheVariants.{Undefined}
use Rattle.netlist.specs.declared.netlist.Net.{Net}
use Rattle.bench_text.specs.declared.statement.Statement as code
use Rattle.bench_text.specs.declared.statement.Statement.TheVariants.{Defines, NamesOutput}
use Rattle.bench_text.specs.Line.{Statement, defines, names_output}
use Rattle.bench_text.specs.NetlistOf.{is_among, undefined_fault, first_undefined, unless, place_of, uses_in}
use Rattle.netlist.specs.Joined.{seen_net}
use Rattle.bench_text.specs.Stages.{WiringView, wiring, seen_lines}
use Rattle.netlist.specs.Names.{seen_names}
use Rattle.netlist.proofs.CallerLemmas.{list_any-place}

-- this wiring, followed by that of more lines
abbrev pub wired_from : List (List ℕ) → List (Part × List ℕ) → List ℕ → List (ℕ × Statement) → Result WiringView BenchFault
wired_from names nets outputs lines =
    unless (undefined_fault names (flat_map uses_in lines))
    (record { nets = nets ++ (wiring names lines).nets; outputs = outputs ++ (wiring names lines).outputs })

-- these numbers, followed by those of more names that a line uses
abbrev pub numbers_from : List (List ℕ) → ℕ → List ℕ → List (List ℕ) → Result (List ℕ) BenchFault
numbers_from names line numbers pins =
    unless (undefined_fault names (map (λ pin. (line, pin)) pins)) (numbers ++ map (place_of names) pins)

-- the number of a name
pub ok_or-position : (names : List (List ℕ)) (line : ℕ) (name : List ℕ) →
    ok_or (position (bytes_eq name) names) (Undefined line) ≡ unless (undefined_fault names ((line, name) ∷ [])) (place_of names name)
ok_or-position names line name = rw (list_any-place (bytes_eq name) names) (go (ltb (place_of names name) (length names)))
  where
    go : (b : Bool) → ok_or (cond b (Some (place_of names name)) None) (Undefined line)
        ≡ unless (option_map (λ (used : ℕ × List ℕ). Undefined used.0) (cond (not b) (Some (line, name)) None)) (place_of names name)
    go true = refl
    go false = refl

-- the first fault of two lists of uses
pub undefined_fault-append : (names : List (List ℕ)) (uses more : List (ℕ × List ℕ)) →
    undefined_fault names (uses ++ more) ≡ option_or (undefined_fault names uses) (undefined_fault names more)
undefined_fault-append names uses more =
    ap (option_map (λ (used : ℕ × List ℕ). Undefined used.0)) (find-append (λ (used : ℕ × List ℕ). not (is_among names used.1)) uses more)
    ∙ go (first_undefined names uses)
  where
    go : (o : Option (ℕ × List ℕ)) → option_map (λ (used : ℕ × List ℕ). Undefined used.0) (option_or o (first_undefined names more))
        ≡ option_or (option_map (λ (used : ℕ × List ℕ). Undefined used.0) o) (undefined_fault names more)
    go (Some used) = refl
    go None = refl

-- what a value unless there is a fault tells of the fault
pub unless-Ok : {A : Type 0} (fault : Option BenchFault) (value x : A) → Ok x ≡ unless fault value → (fault ≡ None) × (x ≡ value)
unless-Ok (Some fault) value x e = cc
unless-Ok None value x e = (refl, cc)

pub unless-Err : {A : Type 0} (fault : Option BenchFault) (value : A) (e : BenchFault) → Err e ≡ unless fault value → fault ≡ Some e
unless-Err (Some fault) value e h = cc
unless-Err None value e h = cc

-- the first name that a line uses
pub numbers_from-fault : (names : List (List ℕ)) (line : ℕ) (numbers : List ℕ) (pin : List ℕ) (pins : List (List ℕ)) (fault : BenchFault) →
    undefined_fault names ((line, pin) ∷ []) ≡ Some fault → numbers_from names line numbers (pin ∷ pins) ≡ Err fault
numbers_from-fault names line numbers pin pins fault h =
    rw (undefined_fault-append names ((line, pin) ∷ []) (map (λ pin. (line, pin)) pins), h) refl

-- the first of more lines: its fault, its net, or its output
module _ (names : List (List ℕ)) (nets : List (Part × List ℕ)) (outputs : List ℕ) (line : ℕ) (lines : List (ℕ × Statement)) where
  first_fault : (said : Statement) (fault : BenchFault) → undefined_fault names (uses_in (line, said)) ≡ Some fault →
      wired_from names nets outputs ((line, said) ∷ lines) ≡ Err fault
  first_fault said fault h = rw (undefined_fault-append names (uses_in (line, said)) (flat_map uses_in lines), h) refl

  first_net : (name : List ℕ) (part : Part) (pins : List (List ℕ)) → undefined_fault names (map (λ pin. (line, pin)) pins) ≡ None →
      wired_from names nets outputs ((line, defines name part pins) ∷ lines)
      ≡ wired_from names (nets ++ (part, map (place_of names) pins) ∷ []) outputs lines
  first_net name part pins h =
      rw (undefined_fault-append names (map (λ pin. (line, pin)) pins) (flat_map uses_in lines), h, append_assoc) refl

  first_output : (name : List ℕ) → undefined_fault names ((line, name) ∷ []) ≡ None →
      wired_from names nets outputs ((line, names_output name) ∷ lines)
      ≡ wired_from names nets (outputs ++ place_of names name ∷ []) lines
  first_output name h =
      rw (undefined_fault-append names ((line, name) ∷ []) (flat_map uses_in lines), h, append_assoc) refl

-- the next line of the code, which says this, and the wiring of the lines before it
module _ (names : List (List ℕ)) (nets : List Net) (outputs : List ℕ) (lines : List (ℕ × code.Statement)) (i : ℕ) (item : ℕ × code.Statement)
    (inside : i < length lines) (is : item ≡ get_or lines i item) where
  abbrev left : List (ℕ × code.Statement) → Result WiringView BenchFault
  left rest = wired_from names (map seen_net nets) outputs (seen_lines rest)

  next : (said : code.Statement) → item.1 ≡ said → left (drop i lines) ≡ left ((item.0, said) ∷ drop (i + 1) lines)
  next said says =
      at_drop_more left lines i item inside ∙ ap (λ line. left (line ∷ drop (i + 1) lines)) (sym is)
      ∙ ap (λ said. left ((item.0, said) ∷ drop (i + 1) lines)) says

  -- a pin of a net is the first that has no number
  pub wired_from-fault : (name : Bor (List ℕ)) (part : Part) (pins : SmallVec (Bor (List ℕ))) (slice : List (Bor (List ℕ))) (fault : BenchFault) →
      item.1 ≡ Defines name part pins → slice ≡ pins.items → Err fault ≡ numbers_from names item.0 [] (seen_names slice) →
      left (drop i lines) ≡ Err fault
  wired_from-fault name part pins slice fault says same got =
      next _ says
      ∙ first_fault names (map seen_net nets) outputs item.0 (seen_lines (drop (i + 1) lines)) (defines name.now part (seen_names pins.items)) fault
      (unless-Err _ _ fault (got ∙ ap (λ slice. numbers_from names item.0 [] (seen_names slice)) same))

  -- one more net
  pub wired_from-net : (name : Bor (List ℕ)) (pins : SmallVec (Bor (List ℕ))) (slice : List (Bor (List ℕ))) (net : Net) →
      item.1 ≡ Defines name net.part pins → slice ≡ pins.items → Ok net.pins.items ≡ numbers_from names item.0 [] (seen_names slice) →
      wired_from names (map seen_net (nets ++ net ∷ [])) outputs (seen_lines (drop (i + 1) lines)) ≡ left (drop i lines)
  wired_from-net name pins slice net says same got =
      let rest = seen_lines (drop (i + 1) lines) in
      let known = unless-Ok _ _ _ (got ∙ ap (λ slice. numbers_from names item.0 [] (seen_names slice)) same) in
      ap (λ all. wired_from names all outputs rest)
      (map_push seen_net nets net ∙ ap (λ numbers. map seen_net nets ++ (net.part, numbers) ∷ []) known.1)
      ∙ sym (first_net names (map seen_net nets) outputs item.0 rest name.now net.part (seen_names pins.items) known.0)
      ∙ sym (next _ says)

  -- one more output
  pub wired_from-output : (name : Bor (List ℕ)) (number : ℕ) → item.1 ≡ NamesOutput name →
      Ok number ≡ unless (undefined_fault names ((item.0, name.now) ∷ [])) (place_of names name.now) →
      wired_from names (map seen_net nets) (outputs ++ number ∷ []) (seen_lines (drop (i + 1) lines)) ≡ left (drop i lines)
  wired_from-output name number says got =
      let rest = seen_lines (drop (i + 1) lines) in
      let known = unless-Ok _ _ _ got in
      ap (λ number. wired_from names (map seen_net nets) (outputs ++ number ∷ []) rest) known.1
      ∙ sym (first_output names (map seen_net nets) outputs item.0 rest name.now known.0)
      ∙ sym (next _ says)
