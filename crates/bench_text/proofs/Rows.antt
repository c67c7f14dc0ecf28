-- Worked canonical texts, by computation.
use Rattle.std.proofs.Common.{◌≡◌, ℕ, List, ◌∷◌, ◌++◌, Result, Ok, codes, refl}
use Rattle.bench_text.specs.declared.fault.BenchFault.{BenchFault}
use Rattle.texts.specs.Text.{◌>>=◌}
use Rattle.bench_text.specs.NetlistOf.{netlist_of}
use Rattle.bench_text.specs.Canonical.{canonical}

-- the canonical text of the netlist of a text
canonical_of : List ℕ → Result (List ℕ) BenchFault
canonical_of text = netlist_of text >>= λ netlist. Ok (canonical netlist)

-- small letters, carriage returns, tabs, a comment that is no ASCII, an output named twice and before its net
spellings_text : List ℕ
spellings_text = codes "input(a)\r\n\toutput ( y ) # " ++ 195 ∷ 169 ∷ codes "\r\noutput(y)\r\ny = and( a )"

spellings : canonical_of spellings_text ≡ Ok (codes "INPUT(a)\ny = AND(a)\nOUTPUT(y)\n")
unfolding canonical_of canonical spellings_text
spellings = refl

-- nets that are used before their lines
use_before_definition : canonical_of (codes "OUTPUT(y)\ny = NOT(n)\nn = NOT(a)\nINPUT(a)\n") ≡ Ok (codes "y = NOT(n)\nn = NOT(a)\nINPUT(a)\nOUTPUT(y)\n")
unfolding canonical_of canonical
use_before_definition = refl

-- nets that are named as keywords
keywords_as_names : canonical_of (codes "INPUT(INPUT)\nNOT = not(INPUT)") ≡ Ok (codes "INPUT(INPUT)\nNOT = NOT(INPUT)\n")
unfolding canonical_of canonical
keywords_as_names = refl

-- each keyword, lists of pins, a pin that stands twice and two outputs
every_part_text : List ℕ
every_part_text = codes "INPUT(a)\nb=And(a,a)\nc=nand(a,b)\nd=OR(a)\ne=NOR(a,b,c)\nf=XOR(a,e)\ng=XNOR(a)\nh=INV(a)\ni=BUFF(h)\nj=dff(i)\nOUTPUT(j)\nOUTPUT(a)"

every_part_canonical : List ℕ
every_part_canonical = codes "INPUT(a)\nb = AND(a, a)\nc = NAND(a, b)\nd = OR(a)\ne = NOR(a, b, c)\nf = XOR(a, e)\ng = XNOR(a)\nh = NOT(a)\ni = BUF(h)\nj = DFF(i)\nOUTPUT(j)\nOUTPUT(a)\n"

every_part : canonical_of every_part_text ≡ Ok every_part_canonical
unfolding canonical_of canonical every_part_text every_part_canonical
every_part = refl
