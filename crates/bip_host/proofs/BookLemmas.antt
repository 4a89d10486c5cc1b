-- What the shared book keeps of a grant that it doesn't take.
use Rattle.std.proofs.Common.{◌≡◌, Bool, false, true, Option, None, Some, refl, subst, sym}
use Rattle.std.specs.Prelude.{IsTrue, is_none}
use Rattle.bip_host.specs.Books.{IsKeptOf, SharedContent, first_refusal, blames_grant}
use Rattle.bip_host.specs.Books.{later_refusal}
use Rattle.bip_host.specs.Books.{memory_wanted}
use Rattle.bip_model.specs.declared.grants.Grant.{Grant}
use Rattle.bip_replay.specs.Book.{Content, IsAppendFault, IsRunWith}
use Rattle.bip_replay.specs.declared.faults.BookFault.{BookFault}

-- a shared book of these
abbrev pub shared : Content → Option BookFault → Bool → SharedContent
shared k r w = record { book = k; refused = r; wanted_memory = w }

-- memory was wanted
pub memory_kept : (b : SharedContent) (k later : Content) (r : Option BookFault) (w : Bool)
    (g : Grant) → b ≡ shared k r w → later ≡ k → IsRunWith k g → IsKeptOf b g (shared later r true)
memory_kept b k later r w g is same run =
    subst (λ x. IsKeptOf x g (shared later r true)) (sym is)
    (subst (λ y. IsKeptOf (shared k r w) g (shared y r true)) (sym same) (memory_wanted run))

-- the first refusal
pub first_kept : (b : SharedContent) (k later : Content) (r : Option BookFault) (w : Bool)
    (g : Grant) (fault : BookFault) → b ≡ shared k r w → later ≡ k → IsTrue (blames_grant fault)
    → IsAppendFault k g fault → r ≡ None → IsKeptOf b g (shared later (Some fault) w)
first_kept b k later r w g fault is same refusal why none =
    subst (λ x. IsKeptOf x g (shared later (Some fault) w)) (sym is)
    (subst (λ y. IsKeptOf (shared k r w) g (shared y (Some fault) w)) (sym same)
    (first_refusal fault refusal why none))

-- what isn't none is something
there : (r : Option BookFault) → is_none r ≡ false → (first : BookFault) × (r ≡ Some first)
there None some = cc
there (Some first) some = (first, refl)

-- a later refusal
pub later_kept : (b : SharedContent) (k later : Content) (r : Option BookFault) (w : Bool)
    (g : Grant) (fault : BookFault) → b ≡ shared k r w → later ≡ k → IsTrue (blames_grant fault)
    → IsAppendFault k g fault → is_none r ≡ false → IsKeptOf b g (shared later r w)
later_kept b k later r w g fault is same refusal why some =
    let first = there r some in
    subst (λ x. IsKeptOf x g (shared later r w)) (sym is)
    (subst (λ y. IsKeptOf (shared k r w) g (shared y r w)) (sym same)
    (later_refusal fault first.0 refusal why first.1))
