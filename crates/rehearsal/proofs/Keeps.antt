-- What a station has after the lines so far: associations that stand by these lines, and a memory of each message that was handed on.
use Rattle.std.proofs.Common.{◌≡◌, ℕ, ◌^◌, ◌<◌, true, eqb, ltb, ◌⊎◌, List, [], ◌∷◌, ◌++◌, length, take, Some, None, sym, refl, ap, ◌∙◌, subst, inl, inr, ⊎_elim, arith}
use Rattle.std.specs.List.{slice_get}
use Rattle.std.proofs.lemmas.Bool.{cases_Bool, cond-true, cond-false, both_ways, and_parts, and_from, eqb-true, eq-eqb, ltb-true, ltb-false}
use Rattle.banks.specs.Ciphers.{Ciphers}
use Rattle.banks.specs.Tags.{Tags}
use Rattle.register.specs.Places.{not_past}
use Rattle.register.proofs.Lookups.{none_some}
use Rattle.rules.specs.Window.{in_window, last_tick}
use Rattle.rules.specs.declared.settings.Settings.{Settings}
use Rattle.station.specs.Records.{same_association, same_heard}
use Rattle.station.specs.States.{association_under, heard_under, fresh_under}
use Rattle.station.specs.declared.records.AssociationKey.{AssociationKey}
use Rattle.station.specs.declared.records.HeardKey.{HeardKey}
use Rattle.station.specs.declared.records.HeardMessage.{HeardMessage}
use Rattle.station.specs.declared.records.SecurityAssociation.{SecurityAssociation}
use Rattle.rehearsal.specs.declared.log.Side.{Side}
use Rattle.rehearsal.specs.declared.log.Side.TheVariants.{A, B}
use Rattle.rehearsal.specs.Associations.{At, Installs, Changes, Accepted, AssociationAt}
use Rattle.rehearsal.specs.Laws.{HandedAt}
use Rattle.rehearsal.specs.Runs.{Turn, Both, Turns, TurnsAt, Runs}
use Rattle.rehearsal.specs.Steps.{Post, Steps}
use Rattle.rehearsal.proofs.Chains.{pushes, run_keeps, run_reaches}
use Rattle.rehearsal.proofs.Lines.{at_old, at_new, at_cases}
use Rattle.rehearsal.proofs.Moves.{HeardAs, Moves, step_moves}

-- KEYS

same_key : (j k : AssociationKey) → same_association j k ≡ true → j ≡ k
same_key j k e =
    let h = and_parts (eqb j.destination k.destination) (eqb j.spi k.spi) e in
    λ i. record { destination = eqb-true _ _ h.0 i; spi = eqb-true _ _ h.1 i }

key_itself : (k : AssociationKey) → same_association k k ≡ true
key_itself k = and_from _ _ (eq-eqb k.destination k.destination refl) (eq-eqb k.spi k.spi refl)

same_message : (j k : HeardKey) → same_heard j k ≡ true → j ≡ k
same_message j k e =
    let h = and_parts (eqb j.network k.network) _ e in
    let i = and_parts (eqb j.spi k.spi) _ h.1 in
    let l = and_parts (eqb j.tvp k.tvp) _ i.1 in
    let o = and_parts (eqb j.ne_id k.ne_id) _ l.1 in
    λ n. record { network = eqb-true _ _ h.0 n; spi = eqb-true _ _ i.0 n; tvp = eqb-true _ _ l.0 n; ne_id = eqb-true _ _ o.0 n; prop = eqb-true _ _ o.1 n }

message_itself : (k : HeardKey) → same_heard k k ≡ true
message_itself k =
    and_from _ _ (eq-eqb k.network k.network refl)
    (and_from _ _ (eq-eqb k.spi k.spi refl)
    (and_from _ _ (eq-eqb k.tvp k.tvp refl)
    (and_from _ _ (eq-eqb k.ne_id k.ne_id refl) (eq-eqb k.prop k.prop refl))))

-- WHAT IS KEPT

-- the record of a message that was handed on at a reading
abbrev record_of : Settings → ℕ → HeardKey → HeardMessage
record_of s reading key = record { key = key; last = last_tick s.back reading key.tvp }

-- a message that was handed on: its last tick is past, or it is remembered
pub record Known (s : Settings) (p : Post) (reading : ℕ) (key : HeardKey) : Type 0 where
  pub stamp : key.tvp < 2 ^ 32
  pub window : in_window s.back s.ahead reading key.tvp ≡ true
  pub past_or_held : ((record_of s reading key).last < p.station.latest) ⊎ (heard_under key p.contents.heard ≡ Some (record_of s reading key))

pub record Kept (side : Side) (s : Settings) (ts : List Turn) (p : Post) : Type 0 where
  pub settings : p.station.settings ≡ s
  pub held : (k : AssociationKey) (x : SecurityAssociation) → association_under k p.contents.associations ≡ Some x → AssociationAt ts (length ts) side k x
  pub known : (n reading : ℕ) (key : HeardKey) → At ts n (HandedAt side reading key) → Known s p reading key

-- ONE LINE MORE

module _ (ts : List Turn) (turn : Turn) (side : Side) (k : AssociationKey) (x : SecurityAssociation) where
  stands_on : (Accepted side (Changes k) turn → ⊥) → AssociationAt ts (length ts) side k x → AssociationAt (ts ++ turn ∷ []) (length (ts ++ turn ∷ [])) side k x
  stands_on quiet a =
      let long = pushes ts turn in
      record {
        line = a.line;
        above = omega (arith, long, a.above);
        installed = at_old ts (Accepted side (Installs k x)) turn a.line a.installed;
        unchanged = λ j l e h. ⊎_elim (λ o. a.unchanged j l o.1 o.0) (λ n. quiet n.1) (at_cases ts (Accepted side (Changes k)) turn j h);
      }

  stands_new : Accepted side (Installs k x) turn → AssociationAt (ts ++ turn ∷ []) (length (ts ++ turn ∷ [])) side k x
  stands_new h =
      let long = pushes ts turn in
      record {
        line = length ts;
        above = omega (arith, long);
        installed = at_new ts (Accepted side (Installs k x)) turn h;
        unchanged = λ j l e _. omega (arith, long, l, e);
      }

module _ (side : Side) (s : Settings) (ts : List Turn) (turn : Turn) (p q : Post) (kept : Kept side s ts p) where
  abbrev longer : List Turn
  longer = ts ++ turn ∷ []

  -- elsewhere nothing happens
  away : (turn.line.side ≡ side → ⊥) → q ≡ p → Kept side s longer q
  away apart same =
      subst (Kept side s longer) (sym same) (record {
        settings = kept.settings;
        held = λ k x e. stands_on ts turn side k x (λ h. apart h.0) (kept.held k x e);
        known = λ n r key h. ⊎_elim (λ o. kept.known n r key o.0) (λ o. absurd (apart o.1.0)) (at_cases ts (HandedAt side r key) turn n h);
      })

  module _ (here : turn.line.side ≡ side) (moves : Moves turn.line.call turn.answer p q) where
    held_on : (k : AssociationKey) (x : SecurityAssociation) → association_under k q.contents.associations ≡ Some x → AssociationAt longer (length longer) side k x
    held_on k x e =
        ⊎_elim
        (λ stay. stands_on ts turn side k x (λ h. stay.1 k h.1 h.2) (kept.held k x (ap (association_under k) (sym stay.0) ∙ e)))
        (λ change.
        ⊎_elim
        (λ new. stands_new ts turn side k x (here, subst (λ (j : AssociationKey). Installs j x turn.line.call) (sym (same_key k change.key new.0)) (change.installs x new.1), change.accepted))
        (λ old. stands_on ts turn side k x (λ h. both_ways _ old.0 (subst (λ (j : AssociationKey). same_association k j ≡ true) (sym (change.only k h.1)) (key_itself k))) (kept.held k x old.1))
        (change.under k x e))
        moves.keys

    module _ (reading : ℕ) (key : HeardKey) where
      abbrev rec : HeardMessage
      rec = record_of s reading key

      abbrev last : ℕ
      last = rec.last

      -- what was known stays known
      still_known : Known s p reading key → Known s q reading key
      still_known k =
          record {
            stamp = k.stamp;
            window = k.window;
            past_or_held = ⊎_elim
                (λ quiet. ⊎_elim (λ l. inl (omega (arith, l, moves.latest))) (λ e. inr (ap (heard_under key) quiet.0 ∙ e)) k.past_or_held)
                (λ one.
                let h = one.heard in
                ⊎_elim
                (λ t. inl (omega (arith, ltb-true _ _ t, h.now)))
                (λ f. ⊎_elim
                (λ l. absurd (omega (arith, l, h.order, ltb-false _ _ f)))
                (λ e.
                let left : not_past (λ (x : HeardMessage). x.last) one.reading (heard_under key p.contents.heard) ≡ Some rec = ap (not_past (λ (x : HeardMessage). x.last) one.reading) e ∙ cond-false _ _ _ f in
                inr (h.added.under key ∙ ⊎_elim
                (λ t. absurd (none_some (sym (subst (λ (j : HeardKey). fresh_under one.reading j p.contents.heard ≡ None) (sym (same_message key one.key t)) h.unheard) ∙ left)))
                (λ g. cond-false _ _ _ g ∙ left)
                (cases_Bool (same_heard key one.key))))
                k.past_or_held)
                (cases_Bool (ltb last one.reading)))
                moves.heard;
          }

      -- what is handed on now is known from now on
      now_known : HandedAt side reading key turn → Known s q reading key
      now_known handed =
          ⊎_elim
          (λ quiet. absurd (quiet.1 reading key handed.1 handed.2))
          (λ one.
          let same = one.only reading key handed.1 in
          let h : HeardAs s reading key p q =
          subst (λ (x : Settings). HeardAs x reading key p q) kept.settings
          (subst (λ (r : ℕ). HeardAs p.station.settings r key p q) same.0
          (subst (λ (k : HeardKey). HeardAs p.station.settings one.reading k p q) same.1 one.heard)) in
          record { stamp = h.stamp; window = h.window; past_or_held = inr (h.added.under key ∙ cond-true _ _ _ (message_itself key)) })
          moves.heard

    onward : Kept side s longer q
    onward = record {
      settings = moves.settings ∙ kept.settings;
      held = held_on;
      known = λ n r key h. ⊎_elim (λ o. still_known r key (kept.known n r key o.0)) (λ o. now_known r key o.1) (at_cases ts (HandedAt side r key) turn n h);
    }

-- EVERY LINE

-- a station of the two
abbrev pub at : Side → Both → Post
at A p = p.a
at B p = p.b

module _ (m : Ciphers) (t : Tags) where
  -- a line is a step of its station, and leaves the other
  pub at_station : (side here : Side) (turn : Turn) (p q : Both) → TurnsAt m t here turn p q
      → ((here ≡ side) × Steps m t turn.line.call turn.answer (at side p) (at side q)) ⊎ ((here ≡ side → ⊥) × (at side q ≡ at side p))
  at_station A A turn p q h = inl (refl, h.0)
  at_station A B turn p q h = inr (λ e. (let z : ◌≡◌ {A = ℕ} 0 1 = cc in omega arith), h.1)
  at_station B A turn p q h = inr (λ e. (let z : ◌≡◌ {A = ℕ} 0 1 = cc in omega arith), h.1)
  at_station B B turn p q h = inl (refl, h.0)

  module _ (side : Side) (s : Settings) where
    one_line : (ts : List Turn) (turn : Turn) (p q : Both) → Kept side s ts (at side p) → Turns m t turn p q → Kept side s (ts ++ turn ∷ []) (at side q)
    one_line ts turn p q kept h =
        ⊎_elim
        (λ step. onward side s ts turn (at side p) (at side q) kept step.0 (step_moves m t turn.line.call turn.answer (at side p) (at side q) step.1))
        (λ stay. away side s ts turn (at side p) (at side q) kept stay.0 stay.1)
        (at_station side turn.line.side turn p q h)

    pub all_lines : (ts : List Turn) (p q : Both) → Kept side s [] (at side p) → Runs m t ts p q → Kept side s ts (at side q)
    all_lines ts p q kept run = run_keeps m t (λ us x. Kept side s us (at side x)) one_line [] ts p q kept run

-- EACH LINE

module _ (m : Ciphers) (t : Tags) (settings : Side → Settings) (ts : List Turn) (p q : Both) (new : (side : Side) → Kept side (settings side) [] (at side p)) (run : Runs m t ts p q) where
  -- a line of the log: a step of its station, whose associations stand by the lines above
  pub record Stepped (n : ℕ) (turn : Turn) : Type 0 where
    pub before : Post
    pub after : Post
    pub kept : Kept turn.line.side (settings turn.line.side) (take n ts) before
    pub step : Steps m t turn.line.call turn.answer before after

  pub stepped : (n : ℕ) (turn : Turn) → slice_get ts n ≡ Some turn → Stepped n turn
  stepped n turn e =
      let side = turn.line.side in
      let line = run_reaches m t ts n turn p q e run in
      let kept = all_lines m t side (settings side) (take n ts) p line.before (new side) line.above in
      ⊎_elim
      (λ s. record { before = at side line.before; after = at side line.after; kept = kept; step = s.1 })
      (λ away. absurd (away.0 refl))
      (at_station m t side side turn line.before line.after line.here)
