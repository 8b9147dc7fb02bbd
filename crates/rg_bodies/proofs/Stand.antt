-- Bodies that are told stand in the code, and bodies that stand there are told.
use Rattle.std.proofs.Common.{◌≡◌, ◌==◌, ℕ, ◌+◌, ◌≤◌, List, [], ◌∷◌, ◌++◌, length, drop, Option, Some, None}
use Rattle.std.proofs.Common.{refl, sym, ap, ◌∙◌, subst, arith}
use Rattle.std.specs.List.{AllByRecursion}
use Rattle.std.proofs.lemmas.Bool.{eqb-true, eq-eqb}
use Rattle.std.proofs.lemmas.List.{drop_all, length-drop}
use Rattle.std.proofs.lemmas.Option.{same_Some}
use Rattle.rg_base.specs.declared.ty.Ty.{Ty}
use Rattle.rg_code.specs.declared.op.Op.{Op}
use Rattle.rg_spell.specs.declared.rows.Head.{Head}
use Rattle.rg_verify_expressions.specs.Statements.{Block, block_ops}
use Rattle.rg_verify_expressions.specs.Blocks.{Given, Told, block_told, Piece}
use Rattle.rg_verify_expressions.specs.Standing.{block_depth, BlockStand, TellsBlock}
use Rattle.rg_verify_expressions.proofs.ToldStands.{blocks-are-told}
use Rattle.rg_bodies.specs.declared.ending.Ending.{Ending}
use Rattle.rg_bodies.specs.declared.ending.Ending.TheVariants as ending
use Rattle.rg_bodies.specs.Bodies.{RaisedBody, Bodies, types_in_front, ending_by, end_told, body_told, method_told, methods_told, bodies_told}
use Rattle.rg_bodies.specs.Standing.{end_ops, body_ops, main_ops, method_ops, methods_ops, IsBodyFit, AreMethodsFit, BodiesStand, IsWithin}
use Rattle.rg_bodies.specs.Standing.{AreWithin, TellsBodies, BodiesAreTold, StandingBodiesAreTold, BodiesStandOnce}
use Rattle.rg_bodies.proofs.Places.{piece-then, piece-parts, piece-front, behind-front, within-front}
use Rattle.rg_bodies.proofs.Reading.{bind-some, test-some, bind-is, test-is, same-pair, end-stands, end-reads}

drop-none : (ops : List Op) → drop 0 ops ≡ ops
drop-none [] = refl
drop-none (o ∷ os) = refl

module _ (g : Given) (d : ℕ) where
  -- One body

  block-is-told : (types : List Ty) (at : ℕ) (b : Block) (end : ℕ) → BlockStand g types at b end → block_depth b ≤ d
      → block_told g d types at ≡ Some (b, end)
  block-is-told types at b end s deep = by (block_told g d types at) refl
    where
      by : (o : Told Block) → block_told g d types at ≡ o → block_told g d types at ≡ Some (b, end)
      by None h = absurd (subst (TellsBlock g d types at) h (blocks-are-told g d types at) b end s deep)
      by (Some x) h =
          let (own, stands, once) = subst (TellsBlock g d types at) h (blocks-are-told g d types at) in
          let (same_block, same_end) = once b end s deep in
          h ∙ ap (λ (c : Block). Some (c, x.1)) (sym same_block) ∙ ap (λ (n : ℕ). Some (b, n)) (sym same_end)

  abbrev BodyStands : List Ty → Ending → (at : ℕ) → RaisedBody → (end : ℕ) → Type 0
  BodyStands types e at b end = Piece g.ops at (body_ops types e at b) end × IsBodyFit g types e at b × IsWithin d b

  body-stands : (types : List Ty) (e : Ending) (at : ℕ) (b : RaisedBody) (end : ℕ) → body_told g d types e at ≡ Some (b, end)
      → BodyStands types e at b end
  body-stands types e at b end h =
      let (x, xe, h1) = bind-some (block_told g d types at) _ (b, end) h in
      let (y, ye, h2) = bind-some (end_told g.ops e x.0 x.1) _ (b, end) h1 in
      let made : RaisedBody = record { block = x.0; line = y.0 } in
      let (same_body, same_end) = same-pair made b y.1 end h2 in
      let (deep, stands, once) = subst (TellsBlock g d types at) xe (blocks-are-told g d types at) in
      let (behind, closes, fit) = end-stands g.ops e x.0 x.1 y.0 y.1 ye in
      let s : BlockStand g types at x.0 x.1 = stands closes in
      let whole : Piece g.ops at (body_ops types e at made) y.1 = piece-then g.ops s.code behind in
      let all : BodyStands types e at made y.1 = (whole, record { block = s.fits; end = fit }, deep) in
      subst (λ (c : RaisedBody). BodyStands types e at c end) same_body (subst (λ (n : ℕ). BodyStands types e at made n) same_end all)

  body-is-told : (types : List Ty) (e : Ending) (at : ℕ) (b : RaisedBody) (end : ℕ) → BodyStands types e at b end
      → body_told g d types e at ≡ Some (b, end)
  body-is-told types e at b end (whole, fit, deep) =
      let (block, behind) = piece-parts g.ops at end (block_ops types at b.block) (end_ops e b.line) whole in
      let mid = at + length (block_ops types at b.block) in
      let (ends, closes) = end-reads g.ops e b.block mid b.line end behind fit.end in
      let s : BlockStand g types at b.block mid = record { code = block; fits = fit.block; closes = closes } in
      bind-is (block_told g d types at) _ (b.block, mid) (block-is-told types at b.block mid s deep)
      ∙ bind-is (end_told g.ops e b.block mid) _ (b.line, end) ends

  -- The bodies of methods

  abbrev MethodsStand : List Head → (at : ℕ) → List RaisedBody → Type 0
  MethodsStand hs at bs = (drop at g.ops ≡ methods_ops hs at bs) × AreMethodsFit g hs at bs × AllByRecursion (IsWithin d) bs

  methods-stand : (hs : List Head) (at : ℕ) (bs : List RaisedBody) → methods_told g d hs at ≡ Some bs → MethodsStand hs at bs
  methods-stand [] at bs h =
      let (ends, h1) = test-some (at == length g.ops) _ bs h in
      let none : [] ≡ bs = same_Some [] bs h1 in
      let same : at ≡ length g.ops = eqb-true at (length g.ops) ends in
      subst (MethodsStand [] at) none (drop_all at g.ops (omega (arith, same)), tt, tt)
  methods-stand (h ∷ hs) at bs e =
      let (x, xe, e1) = bind-some (method_told g d h at) _ bs e in
      let (cs, ce, e2) = bind-some (methods_told g d hs x.1) _ bs e1 in
      let (own, fit, deep) = body-stands (types_in_front h) (ending_by h.result) at x.0 x.1 xe in
      let (code, fits, deeps) = methods-stand hs x.1 cs ce in
      let here : x.1 ≡ at + length (method_ops h at x.0) = own.place in
      let same : x.0 ∷ cs ≡ bs = same_Some (x.0 ∷ cs) bs e2 in
      let all : MethodsStand (h ∷ hs) at (x.0 ∷ cs) = (
        own.parts ∙ ap (λ (os : List Op). method_ops h at x.0 ++ os) (code ∙ ap (λ (n : ℕ). methods_ops hs n cs) here),
        (fit, subst (λ (n : ℕ). AreMethodsFit g hs n cs) here fits),
        (deep, deeps),
      ) in
      subst (MethodsStand (h ∷ hs) at) same all

  methods-are-told : (hs : List Head) (at : ℕ) (bs : List RaisedBody) → at ≤ length g.ops → MethodsStand hs at bs → methods_told g d hs at ≡ Some bs
  methods-are-told [] at [] le (code, fits, deeps) =
      let same : at ≡ length g.ops = omega (arith, le, length-drop at g.ops, ap length code) in
      test-is (at == length g.ops) _ (eq-eqb at (length g.ops) same)
  methods-are-told [] at (b ∷ bs) le (code, fits, deeps) = absurd fits
  methods-are-told (h ∷ hs) at [] le (code, fits, deeps) = absurd fits
  methods-are-told (h ∷ hs) at (b ∷ bs) le (code, (fit, fits), (deep, deeps)) =
      let body = method_ops h at b in
      let mid = at + length body in
      let rest = methods_ops hs mid bs in
      bind-is (method_told g d h at) _ (b, mid)
      (body-is-told (types_in_front h) (ending_by h.result) at b mid (piece-front g.ops at body rest code, fit, deep))
      ∙ bind-is (methods_told g d hs mid) _ bs
      (methods-are-told hs mid bs (within-front g.ops at body rest le code) (behind-front g.ops at body rest code, fits, deeps))

  -- All bodies

  abbrev AllStand : List Head → Bodies → Type 0
  AllStand hs x = BodiesStand g hs x × AreWithin d x

  bodies-stand : (hs : List Head) (x : Bodies) → bodies_told g d hs ≡ Some x → AllStand hs x
  bodies-stand hs x h =
      let (m, me, h1) = bind-some (body_told g d [] ending.Main 0) _ x h in
      let (bs, be, h2) = bind-some (methods_told g d hs m.1) _ x h1 in
      let (own, fit, deep) = body-stands [] ending.Main 0 m.0 m.1 me in
      let (code, fits, deeps) = methods-stand hs m.1 bs be in
      let here : m.1 ≡ length (main_ops m.0) = omega (arith, own.place) in
      let made : Bodies = record { main = m.0; methods = bs } in
      let same : made ≡ x = same_Some made x h2 in
      let all : AllStand hs made = (
        record {
          code = sym (drop-none g.ops) ∙ own.parts
              ∙ ap (λ (os : List Op). main_ops m.0 ++ os) (code ∙ ap (λ (n : ℕ). methods_ops hs n bs) here);
          main = fit;
          methods = subst (λ (n : ℕ). AreMethodsFit g hs n bs) here fits;
        },
        record { main = deep; methods = deeps },
      ) in
      subst (AllStand hs) same all

  standing-told : (hs : List Head) (x : Bodies) → AreWithin d x → BodiesStand g hs x → bodies_told g d hs ≡ Some x
  standing-told hs x w s =
      let main = main_ops x.main in
      let rest = methods_ops hs (length main) x.methods in
      let whole : drop 0 g.ops ≡ main ++ rest = drop-none g.ops ∙ s.code in
      let here : 0 + length main ≡ length main = omega arith in
      let own = subst (λ (n : ℕ). Piece g.ops 0 main n) here (piece-front g.ops 0 main rest whole) in
      let behind = subst (λ (n : ℕ). drop n g.ops ≡ rest) here (behind-front g.ops 0 main rest whole) in
      let le = subst (λ (n : ℕ). n ≤ length g.ops) here (within-front g.ops 0 main rest (omega arith) whole) in
      bind-is (body_told g d [] ending.Main 0) _ (x.main, length main) (body-is-told [] ending.Main 0 x.main (length main) (own, s.main, w.main))
      ∙ bind-is (methods_told g d hs (length main)) _ x.methods (methods-are-told hs (length main) x.methods le (behind, s.methods, w.methods))

  tells-by : (hs : List Head) (o : Option Bodies) → bodies_told g d hs ≡ o → TellsBodies g d hs o
  tells-by hs None h = λ x s w. let told : Some x ≡ None = sym (standing-told hs x w s) ∙ h in absurd cc
  tells-by hs (Some x) h =
      let (s, w) = bodies-stand hs x h in
      (s, w, λ y t v. same_Some y x (sym (standing-told hs y v t) ∙ h))

-- how deep blocks stand in bodies, all together
abbrev deeper : List RaisedBody → ℕ
deeper [] = 0
deeper (b ∷ bs) = block_depth b.block + deeper bs

deep-enough : (d : ℕ) (bs : List RaisedBody) → deeper bs ≤ d → AllByRecursion (IsWithin d) bs
deep-enough d [] le = tt
deep-enough d (b ∷ bs) le =
    let own : block_depth b.block ≤ d = omega (arith, le) in
    let others : deeper bs ≤ d = omega (arith, le) in
    (own, deep-enough d bs others)

within-all : (d : ℕ) (x : Bodies) → block_depth x.main.block + deeper x.methods ≤ d → AreWithin d x
within-all d x le = record { main = omega (arith, le); methods = deep-enough d x.methods (omega (arith, le)) }

pub are-told : BodiesAreTold
are-told g d hs = tells-by g d hs (bodies_told g d hs) refl

pub standing-are-told : StandingBodiesAreTold
standing-are-told g d hs x w s = standing-told g d hs x w s

pub stand-once : BodiesStandOnce
stand-once g hs x y s t =
    let one = block_depth x.main.block + deeper x.methods in
    let two = block_depth y.main.block + deeper y.methods in
    let d = one + two in
    same_Some x y (sym (standing-told g d hs x (within-all d x (omega arith)) s) ∙ standing-told g d hs y (within-all d y (omega arith)) t)
