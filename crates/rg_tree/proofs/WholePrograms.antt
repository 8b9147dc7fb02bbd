-- Whole programs, from the source to the tree and back, computed.
use Rattle.std.proofs.Common.{◌≡◌, ℕ, List, [], ◌∷◌, Some, codes, refl}
use Rattle.std.specs.Fmt.{digits}
use Rattle.rg_base.specs.Pieces.{front}
use Rattle.rg_base.specs.Tokens.{cut_from}
use Rattle.rg_tree.proofs.Texts.{lines, fills_a_list}
use Rattle.rg_tree.proofs.RoundTrips.{read_tree, format}

list-tree : read_tree 100 (lines
    (codes "class Node { value: int; next: mut Node; }" ∷ codes "class List {" ∷ codes "  head: mut Node;"
    ∷ codes "  def mut push(v: int) {" ∷ codes "    let n: mut Node = new Node;"
    ∷ codes "    n.value = v;" ∷ codes "    n.next = self.head;" ∷ codes "    self.head = n;" ∷ codes "  }" ∷ codes "}"
    ∷ codes "main arena {" ∷ codes "  let box: iso List = new iso List in trace;"
    ∷ codes "  enter box as l { call l.push(3); collect; }" ∷ codes "  let f: imm List = freeze box;" ∷ codes "  print f.head.value;"
    ∷ codes "}" ∷ [])) ≡ Some fills_a_list
unfolding front cut_from
list-tree = refl

-- every form of a class and a member, in its canonical text
abbrev classes_and_members : List ℕ
classes_and_members = lines (
    codes "tmp class T {" ∷
    codes "  p: paused A;" ∷
    codes "  t: tmp T;" ∷
    codes "}" ∷
    codes "class A {" ∷
    codes "  n: int;" ∷
    codes "  b: bool;" ∷
    codes "  y: iso A;" ∷
    codes "  i: imm A;" ∷
    codes "  def mut go(k: int, x: bool): int {" ∷
    codes "    return k;" ∷
    codes "  }" ∷
    codes "  def paused idle() {" ∷
    codes "  }" ∷
    codes "}" ∷
    codes "class R [mut A];" ∷
    codes "tmp class S [int];" ∷
    codes "main count {" ∷
    codes "}" ∷ [])

classes_and_members-formatted : format 100 classes_and_members ≡ Some classes_and_members
unfolding front cut_from digits
classes_and_members-formatted = refl

-- every form of a right side, in its canonical text
abbrev right_sides : List ℕ
right_sides = lines (
    codes "main trace {" ∷
    codes "  let a: mut A = new A;" ∷
    codes "  let t: tmp T = new tmp T;" ∷
    codes "  let y: iso A = new iso A in arena;" ∷
    codes "  let r: mut R = new R [k];" ∷
    codes "  let s: tmp S = new tmp S [2];" ∷
    codes "  let z: iso R = new iso R [size r] in count;" ∷
    codes "  let m: bool = more;" ∷
    codes "  let k: int = read;" ∷
    codes "  let f: imm A = freeze y;" ∷
    codes "  let g: mut A = merge z;" ∷
    codes "  k = call a.go(-k, true);" ∷
    codes "  a.n = k;" ∷
    codes "  r[k + 1] = new A;" ∷
    codes "  self.r[k] = r[0];" ∷
    codes "}" ∷ [])

right_sides-formatted : format 100 right_sides ≡ Some right_sides
unfolding front cut_from digits
right_sides-formatted = refl

-- every form of a statement, in its canonical text
abbrev statements : List ℕ
statements = lines (
    codes "main arena {" ∷
    codes "  swap z, a.y;" ∷
    codes "  enter a.y as w {" ∷
    codes "    call w.idle();" ∷
    codes "    call self.i.i.go(1, m == false);" ∷
    codes "  }" ∷
    codes "  enter y as w {" ∷
    codes "  } giving w;" ∷
    codes "  while k {" ∷
    codes "    collect;" ∷
    codes "  }" ∷
    codes "  if a.i is nil {" ∷
    codes "    collect;" ∷
    codes "  }" ∷
    codes "  if k {" ∷
    codes "    print k;" ∷
    codes "  } else {" ∷
    codes "    return self.x;" ∷
    codes "  }" ∷
    codes "}" ∷ [])

statements-formatted : format 100 statements ≡ Some statements
unfolding front cut_from digits
statements-formatted = refl

-- every form of an expression, in its canonical text
abbrev expressions : List ℕ
expressions = lines (
    codes "main arena {" ∷
    codes "  print a == nil or false and not 1 < 2;" ∷
    codes "  print k <= 3 and k != 0 or true;" ∷
    codes "  print (k > 1) == (k >= 2);" ∷
    codes "  print k - (1 + 2) * -(3 - 4);" ∷
    codes "  print -k / 3 % 4 - 1 - (2 - self.f.g);" ∷
    codes "  print -size a.b < size self and a.b[self.c[k - 1]] * k != 1;" ∷
    codes "}" ∷ [])

expressions-formatted : format 100 expressions ≡ Some expressions
unfolding front cut_from digits
expressions-formatted = refl
