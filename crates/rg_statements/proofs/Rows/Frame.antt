-- Frames that fit, as one is taken and put back with more room.
use Rattle.std.proofs.Common.{◌≡◌, List, [], ◌∷◌, ◌++◌, All, map, sym, ◌∙◌, ap, subst}
use Rattle.std.proofs.lemmas.List.{map-append}
use Rattle.std.proofs.lemmas.List.Elements.{All-nil, All-cons, All-head, All-tail, All-push}
use Rattle.rg_tree.specs.Rows.Tables.{Tables}
use Rattle.rg_values.specs.declared.state.rows.FrameRow.{FrameRow}
use Rattle.rg_statements.specs.Inner.Calls.{TakesFrame}
use Rattle.rg_values.specs.Fits.{TargetFits, FramesFit, FrameFits}
use Rattle.rg_values.specs.Kept.{kept_frame}
use Rattle.rg_values.specs.Shown.{AreNamed}

All-front : {X : Type 0} (P : X → Type 0) (xs : List X) (x : X) → All P (xs ++ x ∷ []) → All P xs
All-front P [] x all = All-nil P
All-front P (y ∷ ys) x all = All-cons P y ys (All-head P y (ys ++ x ∷ []) all) (All-front P ys x (All-tail P y (ys ++ x ∷ []) all))

All-last : {X : Type 0} (P : X → Type 0) (xs : List X) (x : X) → All P (xs ++ x ∷ []) → P x
All-last P [] x all = All-head P x [] all
All-last P (y ∷ ys) x all = All-last P ys x (All-tail P y (ys ++ x ∷ []) all)

-- the topmost of some frames
pub frames-front : (t : Tables) (old new : List FrameRow) (f : FrameRow) → old ≡ new ++ f ∷ [] → FramesFit t old → FramesFit t new
frames-front t old new f old_is fit =
    let Fit : List FrameRow → Type 0 = λ fs. FramesFit t fs in
    let all : FramesFit t (new ++ f ∷ []) = subst Fit old_is fit in record {
      named = All-front (λ g. AreNamed t g.locals.items) new f all.named;
      targets = All-front (λ g. TargetFits t g.target) new f all.targets;
    }

pub frames-last : (t : Tables) (old new : List FrameRow) (f g : FrameRow) → old ≡ new ++ f ∷ [] → kept_frame g ≡ kept_frame f → FramesFit t old →
    FrameFits t g
frames-last t old new f g old_is same fit =
    let Fit : List FrameRow → Type 0 = λ fs. FramesFit t fs in
    let all : FramesFit t (new ++ f ∷ []) = subst Fit old_is fit in
    let named : AreNamed t f.locals.items = All-last (λ h. AreNamed t h.locals.items) new f all.named in
    let target : TargetFits t f.target = All-last (λ h. TargetFits t h.target) new f all.targets in record {
      named = rw (ap (λ k. k.locals) same) named;
      target = rw (ap (λ k. k.target) same) target;
    }

pub frames-taken : (old new : List FrameRow) (f g : FrameRow) → old ≡ new ++ f ∷ [] → kept_frame g ≡ kept_frame f → TakesFrame old new g
frames-taken old new f g old_is same =
    ap (map kept_frame) old_is ∙ map-append kept_frame new (f ∷ []) ∙ ap (λ k. map kept_frame new ++ k ∷ []) (sym same)

pub frames-back : (t : Tables) (front new : List FrameRow) (g : FrameRow) → new ≡ front ++ g ∷ [] → FramesFit t front → FrameFits t g →
    FramesFit t new
frames-back t front new g new_is fit one =
    let Fit : List FrameRow → Type 0 = λ fs. FramesFit t fs in
    let all : FramesFit t (front ++ g ∷ []) = record {
      named = All-push (λ h. AreNamed t h.locals.items) front g fit.named one.named;
      targets = All-push (λ h. TargetFits t h.target) front g fit.targets one.target;
    } in
    subst Fit (sym new_is) all
