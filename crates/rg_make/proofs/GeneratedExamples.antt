-- The canonical texts of generated programs, computed.
use Rattle.std.proofs.Common.{◌≡◌, ℕ, List, [], ◌∷◌, ◌++◌, codes, refl}
use Prim.Native.String.{String}
use Rattle.std.specs.Fmt.{digits}
use Rattle.rg_tree.specs.Canonical.{canon}
use Rattle.rg_make.specs.Generated.{generated}

-- lines of a text
abbrev lines : List String → List ℕ
lines [] = []
lines (s ∷ ss) = codes s ++ 10 ∷ lines ss

-- the text in front of the first loop
abbrev before : List String
before =
    "class Node {"
    ∷ "  value: int;"
    ∷ "  next: mut Node;"
    ∷ "}"
    ∷ "class List {"
    ∷ "  head: mut Node;"
    ∷ "  def mut push(v: int) {"
    ∷ "    let n: mut Node = new Node;"
    ∷ "    n.value = v;"
    ∷ "    n.next = self.head;"
    ∷ "    self.head = n;"
    ∷ "  }"
    ∷ "  def mut thin() {"
    ∷ "    let p: mut Node = self.head;"
    ∷ "    let go: bool = not p is nil;"
    ∷ "    while go {"
    ∷ "      if p.next is nil {"
    ∷ "        go = false;"
    ∷ "      } else {"
    ∷ "        p.next = p.next.next;"
    ∷ "        p = p.next;"
    ∷ "        go = not p is nil;"
    ∷ "      }"
    ∷ "    }"
    ∷ "  }"
    ∷ "  def paused sum(): int {"
    ∷ "    let s: int = 0;"
    ∷ "    let p: paused Node = self.head;"
    ∷ "    while not p is nil {"
    ∷ "      s = s + p.value;"
    ∷ "      p = p.next;"
    ∷ "    }"
    ∷ "    return s;"
    ∷ "  }"
    ∷ "}"
    ∷ "main arena {"
    ∷ "  let box: iso List = new iso List in trace;"
    ∷ "  enter box as l {"
    ∷ "    let i: int = 1;"
    ∷ []

-- a loop with these numbers
abbrev loop : (size a b : String) → List ℕ
loop size a b =
    codes "    while i <= " ++ codes size ++ codes " {" ++ 10 ∷ codes "      call l.push((i * " ++ codes a ++ codes " + " ++ codes b
    ++ codes ") % 1000);" ++ 10 ∷ lines ("      i = i + 1;" ∷ "    }" ∷ [])

-- the whole text
abbrev text : (size a b : String) → List ℕ
text size a b =
    lines before ++ loop size a b
    ++ lines ("    let a: int = call l.sum();"
    ∷ "    print a;"
    ∷ "    call l.thin();"
    ∷ "    let b: int = call l.sum();"
    ∷ "    print b;"
    ∷ "    collect;"
    ∷ "    i = 1;"
    ∷ [])
    ++ loop size a b ++ lines ("    let c: int = call l.sum();" ∷ "    print c;" ∷ "  }" ∷ "}" ∷ [])

of_one : canon (generated 1 1000) ≡ text "1000" "1" "0"
unfolding digits
of_one = refl

of_a_small_seed : canon (generated 31499 99999) ≡ text "99999" "499" "0"
unfolding digits
of_a_small_seed = refl

of_a_great_seed : canon (generated 2777 12345) ≡ text "12345" "777" "345"
unfolding digits
of_a_great_seed = refl

of_no_size : canon (generated 500 0) ≡ text "0" "500" "0"
unfolding digits
of_no_size = refl
