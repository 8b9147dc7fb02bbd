-- Lines of reports, computed.
use Rattle.std.proofs.Common.{◌≡◌, List, [], ◌∷◌, ◌++◌, codes, refl}
use Rattle.std.specs.Fmt.{digits}
use Rattle.rg_base.specs.declared.words.Manager.TheVariants as manager
use Rattle.rg_base.specs.declared.event.Cause.TheVariants as cause
use Rattle.rg_base.specs.Report.{event_line, end_line, bulk_line}

a_collection_that_was_asked_for : event_line (record {
  step = 7;
  region = 0;
  manager = manager.Trace;
  cause = cause.Asked;
  held = 2;
  kept = 0;
  released = 0;
}) ≡ codes "collect step 7 region 0 trace held 2 kept 0 released 0" ++ 10 ∷ []
unfolding digits
a_collection_that_was_asked_for = refl

one_that_a_pacer_asked_for : event_line (record {
  step = 8997;
  region = 1;
  manager = manager.Trace;
  cause = cause.Paced;
  held = 1001;
  kept = 1001;
  released = 0;
}) ≡ codes "paced step 8997 region 1 trace held 1001 kept 1001 released 0" ++ 10 ∷ []
unfolding digits
one_that_a_pacer_asked_for = refl

one_by_counting : event_line (record {
  step = 5;
  region = 0;
  manager = manager.Count;
  cause = cause.Asked;
  held = 3;
  kept = 0;
  released = 0;
}) ≡ codes "collect step 5 region 0 count held 3 kept 0 released 0" ++ 10 ∷ []
unfolding digits
one_by_counting = refl

one_that_releases_regions : event_line (record {
  step = 9;
  region = 0;
  manager = manager.Trace;
  cause = cause.Asked;
  held = 1;
  kept = 0;
  released = 2;
}) ≡ codes "collect step 9 region 0 trace held 1 kept 0 released 2" ++ 10 ∷ []
unfolding digits
one_that_releases_regions = refl

the_end_of_a_run : end_line (record {
  steps = 11;
  made = 2;
  held = 0;
  frozen = 2;
  regions = 1;
  collections = 0;
  high = 2;
}) ≡ codes "end steps 11 made 2 held 0 frozen 2 regions 1 collections 0" ++ 10 ∷ []
unfolding digits
the_end_of_a_run = refl

the_end_of_bulk : bulk_line 1000 (record {
  steps = 33532;
  made = 2001;
  held = 0;
  frozen = 0;
  regions = 0;
  collections = 1;
  high = 1501;
}) ≡ codes "bulk 1000 steps 33532 made 2001 high 1501 collections 1" ++ 10 ∷ []
unfolding digits
the_end_of_bulk = refl
