-- What the tokens of a dump declare.
use Rattle.std.proofs.Common.{◌≡◌, ℕ, false, List, [], ◌∷◌, ◌++◌, drop, Some, refl, ap, ◌∙◌, codes, append_assoc}
use Rattle.std.specs.Prelude.{bytes_eq}
use Rattle.std.specs.List.{flat_map, AllByRecursion}
use Rattle.std.proofs.lemmas.Grind.{flat_map-append}
use Rattle.netlist.proofs.CallerLemmas.{bytes_eq-same}
use Rattle.vcd_dump.specs.declared.unit.TimeUnit.{TimeUnit}
use Rattle.vcd_dump.specs.declared.unit.TimeUnit.TheVariants.{S, Ms, Us, Ns, Ps, Fs}
use Rattle.vcd_dump.specs.Dump.{Variable, unit_text}
use Rattle.vcd_dump.specs.Shown.{code_of_name, body_of}
use Rattle.vcd_dump.proofs.Lists.{AllByRecursion-front, after_first-append}
use Rattle.vcd_dump.proofs.Tokens.{IsToken, IsWordByte}
use Rattle.vcd_dump.proofs.Body.{body_tokens}

-- a word that is neither of the keywords by which a dump is read
pub record IsOther (word : List ℕ) : Type 0 where
  pub token : IsToken word
  pub no_var : bytes_eq word (codes "$var") ≡ false
  pub no_end : bytes_eq (codes "$enddefinitions") word ≡ false

-- a variable whose code and name are such words, the code also behind a value
pub record IsShown (v : Variable) : Type 0 where
  pub bytes : AllByRecursion IsWordByte v.code
  pub code : IsOther v.code
  pub name : IsOther v.name

-- a unit is such a word
pub IsOther-unit : (unit : TimeUnit) → IsOther (unit_text unit)
IsOther-unit S = record { token = refl; no_var = refl; no_end = refl }
IsOther-unit Ms = record { token = refl; no_var = refl; no_end = refl }
IsOther-unit Us = record { token = refl; no_var = refl; no_end = refl }
IsOther-unit Ns = record { token = refl; no_var = refl; no_end = refl }
IsOther-unit Ps = record { token = refl; no_var = refl; no_end = refl }
IsOther-unit Fs = record { token = refl; no_var = refl; no_end = refl }

-- ---- the tokens of a dump

-- the tokens before the declarations
abbrev pub header_tokens : TimeUnit → List (List ℕ)
header_tokens unit =
    codes "$version" ∷ codes "nullsim" ∷ codes "1" ∷ codes "$end"
    ∷ codes "$timescale" ∷ codes "1" ∷ unit_text unit ∷ codes "$end"
    ∷ codes "$scope" ∷ codes "module" ∷ codes "top" ∷ codes "$end" ∷ []

-- the tokens of a declaration
abbrev pub declaration_tokens : Variable → List (List ℕ)
declaration_tokens v = codes "$var" ∷ codes "wire" ∷ codes "1" ∷ v.code ∷ v.name ∷ codes "$end" ∷ []

-- the tokens behind the declarations
abbrev pub footer_tokens : List (List ℕ)
footer_tokens = codes "$upscope" ∷ codes "$end" ∷ codes "$enddefinitions" ∷ codes "$end" ∷ []

-- the tokens of a dump
abbrev pub all_tokens : TimeUnit → ℕ → List Variable → List (List ℕ)
all_tokens unit horizon variables =
    header_tokens unit ++ (flat_map declaration_tokens variables ++ (footer_tokens ++ body_tokens variables horizon))

-- ---- the body

-- the declarations don't end early
declarations_no_end : (variables : List Variable) → AllByRecursion IsShown variables →
    AllByRecursion (λ token. bytes_eq (codes "$enddefinitions") token ≡ false) (flat_map declaration_tokens variables)
declarations_no_end [] shown = tt
declarations_no_end (v ∷ variables) shown =
    (refl, (refl, (refl, (shown.0.code.no_end, (shown.0.name.no_end, (refl, declarations_no_end variables shown.1))))))

-- the body of a dump is found
pub body_of-tokens : (unit : TimeUnit) (horizon : ℕ) (variables : List Variable) → AllByRecursion IsShown variables →
    body_of (all_tokens unit horizon variables) ≡ body_tokens variables horizon
body_of-tokens unit horizon variables shown =
    ap (λ tokens. drop 1 tokens)
    (after_first-append (bytes_eq (codes "$enddefinitions")) (header_tokens unit)
    (flat_map declaration_tokens variables ++ (footer_tokens ++ body_tokens variables horizon))
    (refl, (refl, (refl, (refl, (refl, (refl, ((IsOther-unit unit).no_end, (refl, (refl, (refl, (refl, (refl, tt))))))))))))
    ∙ after_first-append (bytes_eq (codes "$enddefinitions")) (flat_map declaration_tokens variables)
    (footer_tokens ++ body_tokens variables horizon) (declarations_no_end variables shown))

-- ---- the codes of names

-- no variable has the name
abbrev pub OtherNames : List ℕ → List Variable → Type 0
OtherNames name variables = AllByRecursion (λ (v : Variable). bytes_eq v.name name ≡ false) variables

-- the tokens before the declarations declare nothing
header_passed : (unit : TimeUnit) (name : List ℕ) (rest : List (List ℕ)) →
    code_of_name name (header_tokens unit ++ rest) ≡ code_of_name name rest
header_passed unit name rest = let no_var = (IsOther-unit unit).no_var in rw no_var refl

-- the declarations of other names are passed over
others_passed : (name : List ℕ) (variables : List Variable) (rest : List (List ℕ)) → AllByRecursion IsShown variables →
    OtherNames name variables → code_of_name name (flat_map declaration_tokens variables ++ rest) ≡ code_of_name name rest
others_passed name [] rest shown other = refl
others_passed name (v ∷ variables) rest shown other =
    ap (code_of_name name) (append_assoc (declaration_tokens v) (flat_map declaration_tokens variables) rest)
    ∙ rw (other.0, shown.0.code.no_var, shown.0.name.no_var) (others_passed name variables rest shown.1 other.1)

-- the declaration of a name gives its code
own_declaration : (v : Variable) (rest : List (List ℕ)) → code_of_name v.name (declaration_tokens v ++ rest) ≡ Some v.code
own_declaration v rest = rw (bytes_eq-same v.name) refl

-- the code of the name of one variable of the shown ones, whose name none before it has
pub code_of_name-tokens : (unit : TimeUnit) (horizon : ℕ) (us : List Variable) (v : Variable) (ws : List Variable) →
    AllByRecursion IsShown (us ++ v ∷ ws) → OtherNames v.name us →
    code_of_name v.name (all_tokens unit horizon (us ++ v ∷ ws)) ≡ Some v.code
code_of_name-tokens unit horizon us v ws shown other =
    let behind : List (List ℕ) = footer_tokens ++ body_tokens (us ++ v ∷ ws) horizon in
    header_passed unit v.name (flat_map declaration_tokens (us ++ v ∷ ws) ++ behind)
    ∙ ap (λ tokens. code_of_name v.name (tokens ++ behind)) (flat_map-append declaration_tokens us (v ∷ ws))
    ∙ ap (code_of_name v.name) (append_assoc (flat_map declaration_tokens us) (flat_map declaration_tokens (v ∷ ws)) behind)
    ∙ others_passed v.name us (flat_map declaration_tokens (v ∷ ws) ++ behind)
    (AllByRecursion-front IsShown us (v ∷ ws) shown) other
    ∙ ap (code_of_name v.name) (append_assoc (declaration_tokens v) (flat_map declaration_tokens ws) behind)
    ∙ own_declaration v (flat_map declaration_tokens ws ++ behind)
