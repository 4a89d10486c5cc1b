-- Charts, grant by grant: the moments and the rows of one grant more.
use Rattle.std.proofs.Common.{◌≡◌, ◌≤◌, ◌<◌, ◌+◌, ◌++◌, ◌∙◌, ℕ, Bool, true, false, List, [], ◌∷◌}
use Rattle.std.proofs.Common.{ap, append-nil, append_assoc, arith, length, length-append, refl, sym}
use Rattle.std.proofs.Common.{inl, inr}
use Rattle.std.proofs.lemmas.Bool.{cases_lt, false≢true, lt-ltb}
use Rattle.std.proofs.lemmas.List.{take-append-le, take_all}
use Rattle.std.proofs.lemmas.List.Elements.{filter-append}
use Rattle.std.specs.List.{list_any}
use Rattle.std.specs.Prelude.{◌&&◌, codes, filter, if◌then◌else◌, nat_lt}
use Rattle.bip_model.specs.declared.wants.Want.{Want}
use Rattle.bip_model.specs.States.{State, state_of}
use Rattle.bip_model.specs.Steps.{after, end_of, start_of}
use Rattle.bip_model.specs.declared.grants.Grant.{Grant}
use Rattle.bip_model.specs.declared.parts.System.{System}
use Rattle.bip_model.specs.declared.partitions.Partition.{Partition}
use Rattle.bip_model.specs.declared.states.LocalState.{LocalState}
use Rattle.bip_replay.proofs.RunLemmas.{end_of-push, leads_on}
use Rattle.bip_replay.specs.Runs.{IsNextAt, Kept, StandsAfter, Standing, interactions_of}
use Rattle.bip_replay.specs.Runs.{standing_of, standing_on, state_after}
use Rattle.bip_draw.specs.Charts.{HasDrawn, Moment, Sketch, is_row, laid_out, moments_from}
use Rattle.bip_draw.specs.Charts.{row_text}
use Rattle.bip_draw.specs.Charts.{chart_of, chart_width, lanes_text, legend_of, rows_of, rows_text}
use Rattle.bip_draw.specs.Charts.{state_at}
use Rattle.bip_draw.specs.Feet.{foot_height, foot_text}
use Rattle.bip_draw.specs.Layout.{row_y}
use Rattle.bip_draw.specs.Locals.{state_text}
use Rattle.bip_draw.specs.Shapes.{chart_front}
use Rattle.bip_draw.specs.declared.feet.Foot.{Foot}
use Rattle.bip_draw.specs.declared.charts.Excerpt.{Excerpt}
use Rattle.bip_draw.specs.declared.layout.Layout.{Layout}

-- a grant that is taken in a state, behind so many
abbrev pub moment : System → ℕ → State → Grant → Moment
moment m count s g =
    record { number = count + 1; grant = g; before = s; behind = after m s g.inter.0 }

-- one moment more
moments-push : (m : System) (count n : ℕ) (s : State) (gs : List Grant) (g : Grant)
    → n ≡ count + length gs
    → moments_from m count s (gs ++ g ∷ [])
    ≡ moments_from m count s gs ++ moment m n (end_of m s (interactions_of gs)) g ∷ []
moments-push m count n s [] g e =
    let same : count ≡ n = omega (arith, e) in ap (λ (k : ℕ). moment m k s g ∷ []) same
moments-push m count n s (h ∷ gs) g e =
    ap (λ (rest : List Moment). moment m count s h ∷ rest)
    (moments-push m (count + 1) n (after m s h.inter.0) gs g (omega (arith, e)))

filter_one : (p : Moment → Bool) (at : Moment) (b : Bool) → p at ≡ b
    → filter p (at ∷ []) ≡ (if b then at ∷ [] else [])
filter_one p at b e = rw e refl

-- and one row more, if it is shown
rows-push : (m : System) (x : Excerpt) (gs : List Grant) (g : Grant) (b : Bool)
    → is_row x (length gs + 1) g ≡ b
    → rows_of m x (gs ++ g ∷ [])
    ≡ rows_of m x gs ++ (if b then moment m (length gs) (state_after m gs) g ∷ [] else [])
rows-push m x gs g b e =
    let p : Moment → Bool = λ (at : Moment). is_row x at.number at.grant in
    let at = moment m (length gs) (state_after m gs) g in
    ap (filter p) (moments-push m 0 (length gs) (start_of m) gs g (omega arith))
    ∙ filter-append p (moments_from m 0 (start_of m) gs) (at ∷ [])
    ∙ ap (λ (more : List Moment). rows_of m x gs ++ more) (filter_one p at b e)

-- the text of one row more
rows_text-push : (m : System) (classes : Partition) (l : Layout) (row n : ℕ) (rows : List Moment)
    (at : Moment) → n ≡ row + length rows
    → rows_text m classes l row (rows ++ at ∷ [])
    ≡ rows_text m classes l row rows ++ row_text m classes l n at
rows_text-push m classes l row n [] at e =
    let same : row ≡ n = omega (arith, e) in
    append-nil (row_text m classes l row at)
    ∙ ap (λ (k : ℕ). row_text m classes l k at) same
rows_text-push m classes l row n (first ∷ rows) at e =
    ap (λ (text : List ℕ). row_text m classes l row first ++ text)
    (rows_text-push m classes l (row + 1) n rows at (omega (arith, e)))
    ∙ sym (append_assoc (row_text m classes l row first) (rows_text m classes l (row + 1) rows)
    (row_text m classes l n at))

-- what is counted and written of a grant, by whether it is shown
no_row : (b : Bool) (rows more : ℕ) → b ≡ false → more ≡ (if b then rows + 1 else rows)
    → more ≡ rows
no_row b rows more e is = rw e at is

a_row : (b : Bool) (rows more : ℕ) → b ≡ true → more ≡ (if b then rows + 1 else rows)
    → more ≡ rows + 1
a_row b rows more e is = rw e at is

no_text : (b fits : Bool) (text longer row : List ℕ) → b ≡ false
    → longer ≡ text ++ (if b && fits then row else []) → longer ≡ text
no_text b fits text longer row e is = (rw e at is) ∙ append-nil text

a_text : (b fits : Bool) (text longer row : List ℕ) → b ≡ true → fits ≡ true
    → longer ≡ text ++ (if b && fits then row else []) → longer ≡ text ++ row
a_text b fits text longer row e f is = rw (e, f) at is

-- where a test finds a want there is one when wants are filtered by it
pub some_filtered : (p : Want → Bool) (ws : List Want) → list_any p ws ≡ true
    → 0 < length (filter p ws)
some_filtered p [] finds = absurd (false≢true finds)
some_filtered p (w ∷ ws) finds = by_first (p w) refl (some_filtered p ws)
  where
    by_first : (b : Bool) → p w ≡ b → (list_any p ws ≡ true → 0 < length (filter p ws))
        → 0 < length (filter p (w ∷ ws))
    by_first true is rest = rw is (omega arith)
    by_first false is rest = rw is (rest (rw is at finds))

-- what a chart keeps, by its parts
abbrev pub sketch : System → Partition → Excerpt → Kept → ℕ → ℕ → List LocalState → List ℕ
    → Sketch
sketch m classes x p count rows above text =
    record {
      model = m;
      classes = classes;
      excerpt = x;
      position = p;
      count = count;
      rows = rows;
      above = above;
      text = text;
    }

-- what happened to a chart that took a grant
pub record TookOne (m : System) (classes : Partition) (x : Excerpt) (g : Grant) (p q : Kept)
    (count rows more : ℕ) (above left : List LocalState) (text longer : List ℕ) : Type 0 where
  pub next : IsNextAt (standing_of p) g
  pub on : standing_of q ≡ standing_on (standing_of p) g
  pub counted : more ≡ (if is_row x (count + 1) g then rows + 1 else rows)
  pub early : count + 1 ≤ x.first → state_of left ≡ (standing_of q).state
  pub late : x.first < count + 1 → left ≡ above
  pub written : longer ≡ text
      ++ (if is_row x (count + 1) g && nat_lt rows x.most
      then row_text m classes (laid_out m classes x) rows
      (record {
        number = count + 1;
        grant = g;
        before = (standing_of p).state;
        behind = (standing_of q).state;
      })
      else [])

module _ (m : System) (classes : Partition) (x : Excerpt) (base : ℕ) (gs : List Grant) (g : Grant)
    (p q : Kept) (count rows more : ℕ) (above left : List LocalState) (text longer : List ℕ)
    (old : HasDrawn base gs (sketch m classes x p count rows above text))
    (took : TookOne m classes x g p q count rows more above left text longer) where
  leads : StandsAfter m base (gs ++ g ∷ []) (standing_of q)
  leads = leads_on m base gs (standing_of p) (standing_of q) g old.leads took.next took.on

  behind : (standing_of q).state ≡ after m (state_after m gs) g.inter.0
  behind =
      ap (λ (s : Standing). s.state) leads.there
      ∙ end_of-push m (start_of m) gs g

  before : (standing_of p).state ≡ state_after m gs
  before = ap (λ (s : Standing). s.state) old.leads.there

  abbrev shown : List ℕ
  shown =
      row_text m classes (laid_out m classes x) rows
      (record {
        number = count + 1;
        grant = g;
        before = (standing_of p).state;
        behind = (standing_of q).state;
      })

  the_row : shown
      ≡ row_text m classes (laid_out m classes x) (length (rows_of m x gs))
      (moment m (length gs) (state_after m gs) g)
  the_row = rw (behind, before, old.counted, old.rows) refl

  is_above : state_of left ≡ state_at m (gs ++ g ∷ []) x.first
  is_above = elim (cases_lt x.first (count + 1)) [
    | inl late ↦
        ap (λ (ls : List LocalState). state_of ls) (took.late late)
        ∙ old.above
        ∙ sym (ap (λ (hs : List Grant). state_after m hs)
        (take-append-le x.first gs (g ∷ []) (omega (arith, late, old.counted))))
    | inr early ↦
        took.early early
        ∙ ap (λ (s : Standing). s.state) leads.there
        ∙ sym (ap (λ (hs : List Grant). state_after m hs)
        (take_all x.first (gs ++ g ∷ [])
        (omega (arith, early, old.counted, length-append gs (g ∷ [])))))
  ]

  counts : count + 1 ≡ length (gs ++ g ∷ [])
  counts = omega (arith, old.counted, length-append gs (g ∷ []))

  by_row : (b : Bool) → is_row x (count + 1) g ≡ b
      → HasDrawn base (gs ++ g ∷ []) (sketch m classes x q (count + 1) more left longer)
  by_row false e =
      let at : is_row x (length gs + 1) g ≡ false =
      ap (λ (n : ℕ). is_row x (n + 1) g) (sym old.counted) ∙ e in
      let push = rows-push m x gs g false at in
      let same : more ≡ rows = no_row (is_row x (count + 1) g) rows more e took.counted in
      record {
        leads = leads;
        counted = counts;
        rows = same ∙ old.rows
            ∙ sym (ap length (push ∙ append-nil (rows_of m x gs)));
        above = is_above;
        text = λ few.
            no_text (is_row x (count + 1) g) (nat_lt rows x.most) text longer shown e took.written
            ∙ old.text (omega (arith, few, same))
            ∙ sym (ap (rows_text m classes (laid_out m classes x) 0)
            (push ∙ append-nil (rows_of m x gs)));
      }
  by_row true e =
      let at : is_row x (length gs + 1) g ≡ true =
      ap (λ (n : ℕ). is_row x (n + 1) g) (sym old.counted) ∙ e in
      let push = rows-push m x gs g true at in
      let one : Moment = moment m (length gs) (state_after m gs) g in
      let same : more ≡ rows + 1 = a_row (is_row x (count + 1) g) rows more e took.counted in
      record {
        leads = leads;
        counted = counts;
        rows = omega (
          arith,
          same,
          old.rows,
          ap length push,
          length-append (rows_of m x gs) (one ∷ []),
        );
        above = is_above;
        text = λ few.
            let fits : rows < x.most = omega (arith, few, same) in
            a_text (is_row x (count + 1) g) (nat_lt rows x.most) text longer shown e
            (lt-ltb rows x.most fits) took.written
            ∙ ap (λ (t : List ℕ). t ++ shown) (old.text (omega (arith, few, same)))
            ∙ ap (λ (t : List ℕ).
            rows_text m classes (laid_out m classes x) 0 (rows_of m x gs) ++ t) the_row
            ∙ sym (ap (rows_text m classes (laid_out m classes x) 0) push
            ∙ rows_text-push m classes (laid_out m classes x) 0 (length (rows_of m x gs))
            (rows_of m x gs) one (omega arith));
      }

  pub draws_on : HasDrawn base (gs ++ g ∷ []) (sketch m classes x q (count + 1) more left longer)
  draws_on = by_row (is_row x (count + 1) g) refl

-- a chart that is finished
pub finished : (m : System) (classes : Partition) (x : Excerpt) (base : ℕ) (gs : List Grant)
    (p : Kept) (count rows : ℕ) (above : List LocalState) (text : List ℕ) (l : Layout) (foot : Foot)
    (written : List ℕ) → HasDrawn base gs (sketch m classes x p count rows above text)
    → l ≡ laid_out m classes x → rows ≤ x.most
    → written ≡ chart_front (chart_width m classes l foot) (row_y l rows + foot_height l foot)
    ++ (legend_of classes
    ++ (lanes_text l m rows
    ++ (state_text l m (state_of above)
    ++ (text ++ (foot_text l rows foot ++ codes "</svg>\n")))))
    → written ≡ chart_of m classes x gs foot
finished m classes x base gs p count rows above text l foot written drawn laid few is =
    is ∙ (rw (laid, drawn.rows, drawn.text few)
    (ap (λ (s : State).
    chart_front (chart_width m classes (laid_out m classes x) foot)
    (row_y (laid_out m classes x) (length (rows_of m x gs))
    + foot_height (laid_out m classes x) foot)
    ++ (legend_of classes
    ++ (lanes_text (laid_out m classes x) m (length (rows_of m x gs))
    ++ (state_text (laid_out m classes x) m s
    ++ (rows_text m classes (laid_out m classes x) 0 (rows_of m x gs)
    ++ (foot_text (laid_out m classes x) (length (rows_of m x gs)) foot
    ++ codes "</svg>\n")))))) drawn.above))
