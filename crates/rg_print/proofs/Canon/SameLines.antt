-- What a source's names are, and what stays the same but for lines.
use Rattle.std.proofs.Common.{◌≡◌, ℕ, Bool, List, [], ◌∷◌, ◌++◌, map, Option, ◌∙◌, ap, subst}
use Rattle.rg_base.specs.declared.words.Cap.{Cap}
use Rattle.rg_base.specs.declared.token.Kind.TheVariants as k
use Rattle.rg_base.specs.declared.token.Token.{Token}
use Rattle.rg_tree.specs.Tree.{Name, Ty, Block, Param, Member, field, method, Class}
use Rattle.rg_tree.specs.Lineless.{block_lineless, member_lineless, class_lineless}
use Rattle.rg_tree.specs.Forms as form
use Rattle.rg_tree.specs.Forms.{Given}
use Rattle.rg_tree.specs.Grammar.{text}
use Rattle.rg_print.proofs.Canon.LexemeCuts.{IsName}
use Rattle.rg_print.proofs.Canon.FineTokens.{FineKind}
use Rattle.rg_print.proofs.Canon.LexemesApart.{NamesPlain}

-- a name of a source is within its limit
pub name-of : (source : List ℕ) (t : Token) → t.kind ≡ k.Name → FineKind t.kind (text source t) → IsName (text source t)
name-of source t h f = subst (λ x. FineKind x (text source t)) h f

-- with one name more
pub names-push : (ns : List Name) (n : Name) → NamesPlain ns → IsName n → NamesPlain (ns ++ n ∷ [])
names-push [] n h i = (i, tt)
names-push (x ∷ ns) n h i = (h.0, names-push ns n h.1 i)

-- the same but for lines
abbrev pub rest_lineless : Given form.ClassRest → Given form.ClassRest
rest_lineless r = (r.0, map member_lineless r.1)

pub class-same : (v : Bool) (n m : Name) (x y : Given form.ClassRest) (i j : ℕ) → n ≡ m → rest_lineless x ≡ rest_lineless y
    → class_lineless (record { name = n; is_tmp = v; element = x.0; members = x.1; line = i }) ≡ class_lineless (record {
      name = m;
      is_tmp = v;
      element = y.0;
      members = y.1;
      line = j;
    })
class-same v n m x y i j h e = class-apart (rest_lineless x) (rest_lineless y) h e
  where
    class-apart : (x y : Given form.ClassRest) → n ≡ m → x ≡ y
        → ◌≡◌ {A = Class} (record { name = n; is_tmp = v; element = x.0; members = x.1; line = 0 })
        (record { name = m; is_tmp = v; element = y.0; members = y.1; line = 0 })
    class-apart x y h e = cc

pub field-same : (n m : Name) (t : Ty) (as' bs : List Member) (i j : ℕ) → n ≡ m → map member_lineless as' ≡ map member_lineless bs
    → map member_lineless (field (record { name = n; ty = t; line = i }) ∷ as') ≡ map member_lineless (field (record {
      name = m;
      ty = t;
      line = j;
    }) ∷ bs)
field-same n m t as' bs i j h e =
    ap (λ z. field (record { name = z; ty = t; line = 0 }) ∷ map member_lineless as') h ∙ ap (λ z. field (record {
      name = m;
      ty = t;
      line = 0;
    }) ∷ z) e

pub method-same : (a : Cap) (n m : Name) (ps : List Param) (o : Option Ty) (b d : Block) (as' bs : List Member) (i j : ℕ) → n ≡ m
    → block_lineless b ≡ block_lineless d → map member_lineless as' ≡ map member_lineless bs
    → map member_lineless (method (record { receiver = a; name = n; params = ps; result = o; body = b; line = i }) ∷ as')
    ≡ map member_lineless (method (record { receiver = a; name = m; params = ps; result = o; body = d; line = j }) ∷ bs)
method-same a n m ps o b d as' bs i j h f e =
    ap (λ z. method (record { receiver = a; name = z; params = ps; result = o; body = block_lineless b; line = 0 }) ∷ map member_lineless as') h
    ∙ ap (λ z. method (record { receiver = a; name = m; params = ps; result = o; body = z; line = 0 }) ∷ map member_lineless as') f
    ∙ ap (λ z. method (record { receiver = a; name = m; params = ps; result = o; body = block_lineless d; line = 0 }) ∷ z) e
