-- How far serving has come.
use Rattle.std.proofs.lemmas.Bool.{false≢true}
use Rattle.disk_model.specs.View.{DiskView}
use Rattle.std.proofs.Common.{◌≡◌, ℕ, Bool, ◌==◌, false, eqb, cond, ◌*◌, ◌<◌, ◌≤◌, ◌+◌, ◌-◌, ◌^◌, List, [], ◌∷◌, ◌++◌, length, length-append, append-nil, append_assoc, take, drop, get_or, take-append-drop, min, All, Option, Some, None, IfSome, refl, sym, ap, subst, ◌∙◌, arith, Result, Ok, Err}
use Rattle.std.specs.Io.KnownBytes.{Appends, Consumes, IsAtEnd}
use Rattle.std.proofs.KnownBytes.{Appends-nil, Appends-trans, Consumes-nil, Consumes-trans}
use Rattle.std.proofs.lemmas.List.{length-take, map-append, take_more, take_all, get_or_at, take_at}
use Rattle.std.proofs.lemmas.List.Sums.{count_by_more_no, count_by_more_yes, sum_by-append, sum_by-cons}
use Rattle.std.proofs.lemmas.List.Elements.{All-head, All-tail}
use Rattle.std.proofs.lemmas.Grind.{flat_map-append}
use Rattle.list_lemmas.proofs.Parts.{room_for_one}
use Rattle.bstr.specs.Text.{no_cr}
use Rattle.rf2_rows.specs.File.{lines_in}
use Rattle.history_store.specs.StoreValue.{StoreValue}
use Rattle.line_server.specs.declared.refusal.LineRefusal.{LineRefusal}
use Rattle.line_server.specs.declared.serving.ServeFault.{ServeFault}
use Rattle.line_server.specs.declared.serving.ServeFault.TheVariants as faults
use Rattle.line_server.specs.Sources.{SourceView}
use Rattle.line_server.specs.ReplyValue.{Answer, reply_value, bytes_of}
use Rattle.line_server.specs.declared.held.Held.{Held}
use Rattle.line_server.specs.StateValue.{StateValue, fresh_holding}
use Rattle.line_server.specs.Replies.{Server, server, AsksNoRelease}
use Rattle.store_life.specs.Life.{Call}
use Rattle.line_server.specs.Turns.{Turn, Run, IsTurn, AskNoRelease, lines_asked, replies}
use Rattle.line_server.specs.Streams.{ends_in, AppendsSome, streams, with_reads}
use Rattle.line_server.specs.Reads.{Reading, Gave, Failed, came_of, all_of, IsPiece, Makes}
use Rattle.line_server.specs.Serving.{IsServed, AreLines, IsRead, IsWritten, IsCount, AreReads}
use Rattle.line_server.specs.Steps.{kept, room}
use Rattle.line_server.specs.Feeding.{IsFront, IsUnended, AreCut, IsFed, Intake, intake}
use Rattle.line_server.proofs.Alike.{turn_of, turn_alike, turn_now}
use Rattle.line_server.proofs.Unasked.{ended_asks_none, unended_asks_none, first_ask_none, rest_ask_none}
use Rattle.line_server.proofs.Cuts.{cut_none, cut_part, cut_more, cut_byte, cut_line, cut_end, cut_rest, cut_front, kept_more, kept_none, kept_some, kept_ended, kept_unended}

-- ---- how many lines end in what came

ends_other : (seen : List ℕ) (b : ℕ) → eqb b 10 ≡ false → ends_in (seen ++ b ∷ []) ≡ ends_in seen
ends_other seen b other =
    let at : get_or (seen ++ b ∷ []) (length seen) 0 ≡ b = get_or_at seen b [] 0 (length seen) refl in
    let whole : take (length seen + 1) (seen ++ b ∷ []) ≡ seen ++ b ∷ [] = take_all (length seen + 1) (seen ++ b ∷ []) (omega (arith, length-append seen (b ∷ []))) in
    ap ends_in (sym whole)
    ∙ count_by_more_no (λ x. eqb x 10) (seen ++ b ∷ []) (length seen) 0 (omega (arith, length-append seen (b ∷ []))) (ap (λ (x : ℕ). eqb x 10) at ∙ other)
    ∙ ap ends_in (take_at seen (b ∷ []) (length seen) refl)

ends_feed : (seen : List ℕ) → ends_in (seen ++ 10 ∷ []) ≡ ends_in seen + 1
ends_feed seen =
    let at : get_or (seen ++ 10 ∷ []) (length seen) 0 ≡ 10 = get_or_at seen 10 [] 0 (length seen) refl in
    let whole : take (length seen + 1) (seen ++ 10 ∷ []) ≡ seen ++ 10 ∷ [] = take_all (length seen + 1) (seen ++ 10 ∷ []) (omega (arith, length-append seen (10 ∷ []))) in
    ap ends_in (sym whole)
    ∙ count_by_more_yes (λ x. eqb x 10) (seen ++ 10 ∷ []) (length seen) 0 (omega (arith, length-append seen (10 ∷ []))) (ap (λ (x : ℕ). eqb x 10) at)
    ∙ ap (λ (l : List ℕ). ends_in l + 1) (take_at seen (10 ∷ []) (length seen) refl)

ends_both : (xs ys : List ℕ) → ends_in (xs ++ ys) ≡ ends_in xs + ends_in ys
ends_both xs ys = sum_by-append (λ y. cond (eqb y 10) 1 0) xs ys

none_more : (n : ℕ) → 0 + n ≡ n
none_more n = omega arith

none_ends : (part : List ℕ) → IsUnended part → ends_in part ≡ 0
none_ends [] free = refl
none_ends (x ∷ xs) free =
    sum_by-cons (λ y. cond (eqb y 10) 1 0) x xs ∙ ap (λ (b : Bool). cond b 1 0 + ends_in xs) (All-head (λ b. eqb b 10 ≡ false) x xs free) ∙ none_more (ends_in xs) ∙ none_ends xs (All-tail (λ b. eqb b 10 ≡ false) x xs free)

-- ---- the reads so far

pub makes_none : (a : Option (List Reading)) → Makes a a []
makes_none None = tt
makes_none (Some xs) = sym (append-nil xs)

pub makes_more : (a b c : Option (List Reading)) (xs ys : List Reading) → Makes a b xs → Makes b c ys → Makes a c (xs ++ ys)
makes_more None b c xs ys p q = tt
makes_more (Some x) None c xs ys p q = absurd p
makes_more (Some x) (Some y) None xs ys p q = absurd q
makes_more (Some x) (Some y) (Some z) xs ys p q = q ∙ ap (λ (l : List Reading). l ++ ys) p ∙ append_assoc x xs ys

-- a read gave the end
pub makes_end : (a b c : Option (List Reading)) (reads : List Reading) (n : ℕ) (buf : List ℕ) → Makes a b reads → Makes b c (Gave (take n buf) ∷ []) → n ≡ 0 → Makes a c (reads ++ Gave [] ∷ [])
makes_end a b c reads n buf p q none = makes_more a b c reads (Gave [] ∷ []) p (subst (λ (k : ℕ). Makes b c (Gave (take k buf) ∷ [])) none q)

pub came_more : (reads : List Reading) (last : Reading) (seen : List ℕ) → seen ≡ all_of reads → seen ++ came_of last ≡ all_of (reads ++ last ∷ [])
came_more reads last seen e =
    ap (λ (l : List ℕ). l ++ came_of last) e ∙ ap (λ (l : List ℕ). all_of reads ++ l) (sym (append-nil (came_of last))) ∙ sym (flat_map-append came_of reads (last ∷ []))

came_none : (reads : List Reading) (last : Reading) (seen : List ℕ) → came_of last ≡ [] → seen ≡ all_of reads → seen ≡ all_of (reads ++ last ∷ [])
came_none reads last seen none e = sym (ap (λ (l : List ℕ). seen ++ l) none ∙ append-nil seen) ∙ came_more reads last seen e

-- a piece was read
pub is_piece : (n : ℕ) (buf : List ℕ) → 1 ≤ n → n ≤ length buf → length buf ≡ 4096 → IsPiece (Gave (take n buf))
is_piece n buf some within long = (omega (arith, some, within, length-take n buf), omega (arith, long, length-take n buf))

-- ---- the turns so far

module _ {D : Type 0} (source : SourceView) (view : D → DiskView) where
  -- the bytes that came, and what became of them; and that the source is the same, if no line asked it for a release
  pub record Progress (same : Type 0) (old new : Option (List ℕ)) (before now : Server D) (seen buffer : List ℕ) (served : ℕ) : Type 0 where
    pub turns : List Turn
    pub part : List ℕ
    pub cut : AreCut seen (lines_asked turns) part
    pub ends : length turns ≡ ends_in seen
    pub buffer_is : buffer ≡ kept part
    pub run : Run source view before turns now
    pub written : Appends old new (replies turns)
    pub count : served ≡ min (length turns) (2 ^ 64 - 1)
    pub unasked : AskNoRelease before.held turns → same

  -- one line more
  run_more : (old mid new : Server D) (turns : List Turn) (turn : Turn) → Run source view old turns mid → IsTurn source view mid turn new
      → Run source view old (turns ++ turn ∷ []) new
  run_more old mid new [] turn e t = (new, subst (λ (s : Server D). IsTurn source view s turn new) e t, refl)
  run_more old mid new (first ∷ turns) turn r t = (r.0, r.1, run_more r.0 mid new turns turn r.2 t)

  asked_more : (turns : List Turn) (turn : Turn) → lines_asked turns ++ turn.line ∷ [] ≡ lines_asked (turns ++ turn ∷ [])
  asked_more turns turn = sym (map-append (λ turn. turn.line) turns (turn ∷ []))

  replies_more : (turns : List Turn) (turn : Turn) → replies turns ++ bytes_of (reply_value turn.outcome) ≡ replies (turns ++ turn ∷ [])
  replies_more turns turn =
      sym (flat_map-append (λ (t : Turn). bytes_of (reply_value t.outcome)) turns (turn ∷ []) ∙ ap (λ (l : List ℕ). replies turns ++ l) (append-nil (bytes_of (reply_value turn.outcome))))

  count_more : (turns : List Turn) (turn : Turn) (served : ℕ) → served ≡ min (length turns) (2 ^ 64 - 1) → min (served + 1) (2 ^ 64 - 1) ≡ min (length (turns ++ turn ∷ [])) (2 ^ 64 - 1)
  count_more turns turn served e = omega (arith, e, length-append turns (turn ∷ []))

  pub starts : (same : Type 0) → same → (old : Option (List ℕ)) (before : Server D) → Progress same old old before before [] [] 0
  unfolding room
  starts same unchanged old before = record {
    turns = [];
    part = [];
    cut = cut_none;
    ends = refl;
    buffer_is = refl;
    run = refl;
    written = Appends-nil old;
    count = refl;
    unasked = λ none. unchanged;
  }

  -- a part of a line alone has come
  pub begins : (same : Type 0) → same → (old : Option (List ℕ)) (before : Server D) (part buffer : List ℕ) → IsUnended part → buffer ≡ kept part → Progress same old old before before part buffer 0
  begins same unchanged old before part buffer free is = record {
    turns = [];
    part = part;
    cut = cut_part part free;
    ends = sym (none_ends part free);
    buffer_is = is;
    run = refl;
    written = Appends-nil old;
    count = refl;
    unasked = λ none. unchanged;
  }

  pub byte_more : {same : Type 0} (old new : Option (List ℕ)) (before now : Server D) (seen buffer : List ℕ) (served b : ℕ) → Progress same old new before now seen buffer served → eqb b 10 ≡ false
      → Progress same old new before now (seen ++ b ∷ []) (kept (buffer ++ b ∷ [])) served
  byte_more old new before now seen buffer served b h other = record {
    turns = h.turns;
    part = h.part ++ b ∷ [];
    cut = cut_byte seen (lines_asked h.turns) h.part b h.cut other;
    ends = h.ends ∙ sym (ends_other seen b other);
    buffer_is = ap (λ (l : List ℕ). kept (l ++ b ∷ [])) h.buffer_is ∙ kept_more h.part b;
    run = h.run;
    written = h.written;
    count = h.count;
    unasked = h.unasked;
  }

  -- ---- what is known of the input

  first_lines : (a b : Option (List ℕ)) (seen part : List ℕ) (lines : List (List ℕ)) (fault : ServeFault) → Consumes a b seen → ((more : List ℕ) → IsFront lines (lines_in (seen ++ more))) → IfSome a (AreLines (Err fault) lines)
  first_lines None b seen part lines fault c f = tt
  first_lines (Some xs) None seen part lines fault c f = absurd c
  first_lines (Some xs) (Some ys) seen part lines fault c f = subst (λ (l : List ℕ). IsFront lines (lines_in l)) (sym c) (f ys)

  all_lines : (a b : Option (List ℕ)) (seen : List ℕ) (lines : List (List ℕ)) (n : ℕ) → Consumes a b seen → IsAtEnd b → lines ≡ lines_in seen → IfSome a (AreLines (Ok n) lines)
  all_lines None b seen lines n c e is = tt
  all_lines (Some xs) None seen lines n c e is = absurd c
  all_lines (Some xs) (Some ys) seen lines n c e is = is ∙ ap lines_in (sym (c ∙ ap (λ (l : List ℕ). seen ++ l) e ∙ append-nil seen))

  all_are_first : (a : Option (List ℕ)) (lines : List (List ℕ)) (fault : ServeFault) → IfSome a (AreLines (Ok 0) lines) → IfSome a (AreLines (Err fault) lines)
  all_are_first None lines fault h = tt
  all_are_first (Some xs) lines fault h = ([], sym h ∙ sym (append-nil lines))

  -- ---- a line's end, and what comes of it

  module _ (outcome : Result Answer LineRefusal) (call : Call) (now after : Server D) where
    abbrev pub turn : List ℕ → Turn
    turn line = turn_of outcome call now after line

    -- the line as it was kept was answered so
    abbrev pub Gives : List ℕ → Type 0
    Gives line = IsTurn source view now (turn line) after

    gives_ended : (part buffer : List ℕ) → buffer ≡ kept part → Gives (no_cr buffer) → Gives (no_cr part)
    gives_ended part buffer e g =
        kept_ended Gives (λ x y long other. turn_alike outcome call now after source view x y long other) part (subst (λ (l : List ℕ). Gives (no_cr l)) e g)

    gives_unended : (part buffer : List ℕ) → buffer ≡ kept part → Gives buffer → Gives part
    gives_unended part buffer e g =
        kept_unended Gives (λ x y long other. turn_alike outcome call now after source view x y long other) part (subst Gives e g)

    pub line_more : {same later : Type 0} (old mid new : Option (List ℕ)) (before : Server D) (seen buffer : List ℕ) (served : ℕ) → Progress same old mid before now seen buffer served
        → Gives (no_cr buffer) → (AsksNoRelease (no_cr buffer) now.held → same → later) → Appends mid new (bytes_of (reply_value outcome))
        → Progress later old new before after (seen ++ 10 ∷ []) [] (min (served + 1) (2 ^ 64 - 1))
    unfolding room
    line_more old mid new before seen buffer served h g step w =
        let t = turn (no_cr h.part) in
        record {
          turns = h.turns ++ t ∷ [];
          part = [];
          cut = subst (λ (ls : List (List ℕ)). AreCut (seen ++ 10 ∷ []) ls []) (asked_more h.turns t) (cut_line seen (lines_asked h.turns) h.part h.cut);
          ends = length-append h.turns (t ∷ []) ∙ ap (λ (n : ℕ). n + 1) h.ends ∙ sym (ends_feed seen);
          buffer_is = refl;
          run = run_more before now after h.turns t h.run (gives_ended h.part buffer h.buffer_is g);
          written = subst (λ (bs : List ℕ). Appends old new bs) (replies_more h.turns t) (Appends-trans old mid new (replies h.turns) (bytes_of (reply_value outcome)) h.written w);
          count = count_more h.turns t served h.count;
          unasked = λ none. step (ended_asks_none h.part buffer now.held h.buffer_is (rest_ask_none source view h.turns (t ∷ []) before now h.run none).0) (h.unasked (first_ask_none before.held h.turns (t ∷ []) none));
        }

  -- ---- pieces

  -- a piece was taken, and the source is the same, if none of its lines asked it for a release
  abbrev pub IsFedUnasked : {E : Type 0} → Type 0 → Result ℕ E → Intake → Server D → Server D → Type 0
  IsFedUnasked same result taken before after = (f : IsFed result source view taken before after) × (AskNoRelease before.held f.turns → same)

  module _ (old mid : Option (List ℕ)) (before now : Server D) (part piece : List ℕ) (free : IsUnended part) where
    -- as many lines ended as ended behind the part
    ends_behind : (taken : List ℕ) (n : ℕ) → n ≡ ends_in (part ++ taken) → n ≡ ends_in taken
    ends_behind taken n e = let b = ends_both part taken in let z = none_ends part free in omega (arith, e, b, z)

    -- all of the piece was taken
    pub fed : {E same : Type 0} (buffer : List ℕ) (answered : ℕ) → Progress same old mid before now (part ++ piece) buffer answered → IsFedUnasked {E = E} same (Ok answered) (intake part piece buffer old mid) before now
    fed buffer answered h = (
      record {
        turns = h.turns;
        run = h.run;
        taken = piece;
        rest = h.part;
        front = ([], sym (append-nil piece));
        all = refl;
        dropped = tt;
        lines = h.cut;
        number = ends_behind piece (length h.turns) h.ends;
        kept_is = h.buffer_is;
        replied = h.written;
        count = h.count;
      },
      h.unasked,
    )

    -- the reply to a line wasn't written whole
    pub not_replied : {E same left : Type 0} (fault : E) (new : Option (List ℕ)) (after : Server D) (taken more buffer later : List ℕ) (answered : ℕ) (outcome : Result Answer LineRefusal) (call : Call)
        → Progress same old mid before now (part ++ taken) buffer answered → piece ≡ (taken ++ 10 ∷ []) ++ more
        → Gives outcome call now after (no_cr buffer) → (AsksNoRelease (no_cr buffer) now.held → same → left) → AppendsSome mid new (bytes_of (reply_value outcome)) → later ≡ []
        → IsFedUnasked left (Err fault) (intake part piece later old new) before after
    unfolding room
    not_replied fault new after taken more buffer later answered outcome call h is g step w empty =
        let t = turn outcome call now after (no_cr h.part) in
        let run = run_more before now after h.turns t h.run (gives_ended outcome call now after h.part buffer h.buffer_is g) in (
          record {
            turns = h.turns ++ t ∷ [];
            run = run;
            taken = taken ++ 10 ∷ [];
            rest = [];
            front = (more, is);
            all = tt;
            dropped = refl;
            lines = subst (λ (l : List ℕ). AreCut l (lines_asked (h.turns ++ t ∷ [])) []) (append_assoc part taken (10 ∷ []))
                (subst (λ (ls : List (List ℕ)). AreCut ((part ++ taken) ++ 10 ∷ []) ls []) (asked_more h.turns t) (cut_line (part ++ taken) (lines_asked h.turns) h.part h.cut));
            number = ends_behind (taken ++ 10 ∷ []) (length (h.turns ++ t ∷ []))
                (length-append h.turns (t ∷ []) ∙ ap (λ (n : ℕ). n + 1) h.ends ∙ sym (ends_feed (part ++ taken)) ∙ ap ends_in (append_assoc part taken (10 ∷ [])));
            kept_is = empty;
            replied = (h.turns, t, mid, refl, h.written, w);
            count = tt;
          },
          λ none. step (ended_asks_none h.part buffer now.held h.buffer_is (rest_ask_none source view h.turns (t ∷ []) before now h.run none).0) (h.unasked (first_ask_none before.held h.turns (t ∷ []) none)),
        )

  -- what holds for the source as it is now holds for the source as it was
  module _ (now : SourceView) (same : source.is_honest → now.is_honest × (now.releases ≡ source.releases)) where
    run_now : (turns : List Turn) (old new : Server D) → Run now view old turns new → Run source view old turns new
    run_now [] old new run = run
    run_now (turn ∷ turns) old new run =
        (run.0, turn_now turn.outcome turn.call old run.0 source view now turn.line same run.1, run_now turns run.0 new run.2)

    pub fed_now : {E unchanged : Type 0} (result : Result ℕ E) (taken : Intake) (before after : Server D) → (f : IsFed result now view taken before after) × (AskNoRelease before.held f.turns → unchanged) → IsFedUnasked unchanged result taken before after
    fed_now result taken before after fed = (
      record {
        turns = fed.0.turns;
        run = run_now fed.0.turns before after fed.0.run;
        taken = fed.0.taken;
        rest = fed.0.rest;
        front = fed.0.front;
        all = fed.0.all;
        dropped = fed.0.dropped;
        lines = fed.0.lines;
        number = fed.0.number;
        kept_is = fed.0.kept_is;
        replied = fed.0.replied;
        count = fed.0.count;
      },
      fed.1,
    )

  -- several lines more
  run_both : (old mid new : Server D) (turns more : List Turn) → Run source view old turns mid → Run source view mid more new
      → Run source view old (turns ++ more) new
  run_both old mid new [] more e r = subst (λ (s : Server D). Run source view s more new) e r
  run_both old mid new (turn ∷ turns) more r s = (r.0, r.1, run_both r.0 mid new turns more r.2 s)

  asked_both : (turns more : List Turn) → lines_asked turns ++ lines_asked more ≡ lines_asked (turns ++ more)
  asked_both turns more = sym (map-append (λ turn. turn.line) turns more)

  replies_both : (turns more : List Turn) → replies turns ++ replies more ≡ replies (turns ++ more)
  replies_both turns more = sym (flat_map-append (λ (t : Turn). bytes_of (reply_value t.outcome)) turns more)

  module _ (same : Type 0) (old mid : Option (List ℕ)) (before now : Server D) (seen buffer : List ℕ) (served : ℕ) (h : Progress same old mid before now seen buffer served) where
    -- a piece was fed
    pub piece_more : {E step whole : Type 0} (new : Option (List ℕ)) (after : Server D) (piece later : List ℕ) (n : ℕ) → IsFedUnasked {E = E} step (Ok n) (intake h.part piece later mid new) now after → (step → same → whole)
        → Progress whole old new before after (seen ++ piece) later (min (served + n) (2 ^ 64 - 1))
    piece_more new after piece later n fed both = let f = fed.0 in record {
      turns = h.turns ++ f.turns;
      part = f.rest;
      cut = subst (λ (ls : List (List ℕ)). AreCut (seen ++ piece) ls f.rest) (asked_both h.turns f.turns)
          (cut_more seen piece h.part f.rest (lines_asked h.turns) (lines_asked f.turns) h.cut (subst (λ (l : List ℕ). AreCut (h.part ++ l) (lines_asked f.turns) f.rest) f.all f.lines));
      ends = length-append h.turns f.turns ∙ ap (λ (n : ℕ). n + length f.turns) h.ends ∙ ap (λ (n : ℕ). ends_in seen + n) (f.number ∙ ap ends_in f.all) ∙ sym (ends_both seen piece);
      buffer_is = f.kept_is;
      run = run_both before now after h.turns f.turns h.run f.run;
      written = subst (λ (bs : List ℕ). Appends old new bs) (replies_both h.turns f.turns) (Appends-trans old mid new (replies h.turns) (replies f.turns) h.written f.replied);
      count = let a = h.count in let b = f.count in omega (arith, a, b, length-append h.turns f.turns);
      unasked = λ none. both (fed.1 (rest_ask_none source view h.turns f.turns before now h.run none)) (h.unasked (first_ask_none before.held h.turns f.turns none));
    }

  -- ---- the ways out

  module _ (held : Held) (most : ℕ) (input rest old : Option (List ℕ)) (begun made : Option (List Reading)) (before : StoreValue D) where
    abbrev start : Server D
    start = server (fresh_holding held) before

    abbrev Out : Type 0 → Result ℕ ServeFault → Option (List ℕ) → StoreValue D → Type 0
    Out same result new after = (s : IsServed result most held source view (with_reads (streams input rest old new) begun made) before after) × (AskNoRelease held s.turns → same)

    out : {same : Type 0} (result : Result ℕ ServeFault) (new : Option (List ℕ)) (state : StateValue) (after : StoreValue D) (turns : List Turn)
        → Run source view start turns (server state after) → IfSome input (AreLines result (lines_asked turns))
        → (came : List ℕ) → Consumes input rest came → length came ≤ most * 4096 → IsRead result most came rest (length turns) → IsWritten result old new turns → IsCount result (length turns)
        → (reads : List Reading) → Makes begun made reads → length reads ≤ most → came ≡ all_of reads → AreReads result most reads (length turns)
        → (AskNoRelease held turns → same) → Out same result new after
    out result new state after turns run lines came consumed few read written count reads makes within all are unasked = (
      record {
        turns = turns;
        state = state;
        run = run;
        lines = lines;
        read = (came, consumed, read, few);
        written = written;
        count = count;
        reads = reads;
        made = makes;
        few = within;
        bytes = all;
        rightly = are;
      },
      unasked,
    )

    module _ (same : Type 0) (mid : Option (List ℕ)) (state : StateValue) (now : StoreValue D) (seen buffer : List ℕ) (served : ℕ) (h : Progress same old mid start (server state now) seen buffer served) (c : Consumes input rest seen) (few : length seen ≤ most * 4096)
        (pieces : List Reading) (each : All IsPiece pieces) (all : seen ≡ all_of pieces) where
      fronts : (fault : ServeFault) → IfSome input (AreLines (Err fault) (lines_asked h.turns))
      fronts fault = first_lines input rest seen h.part (lines_asked h.turns) fault c (λ more. cut_front seen (lines_asked h.turns) h.part more h.cut)

      -- a read failed
      pub unread : Makes begun made (pieces ++ Failed ∷ []) → length pieces < most → Out same (Err faults.Read) mid now
      unread makes lt = out (Err faults.Read) mid state now h.turns h.run (fronts faults.Read) seen c few h.ends h.written tt
          (pieces ++ Failed ∷ []) makes (room_for_one pieces Failed most lt) (came_none pieces Failed seen refl all) (pieces, each, refl) h.unasked

      -- there were too many reads
      pub stopped : most ≤ length seen → Makes begun made pieces → length pieces ≡ most → Out same (Err faults.Reads) mid now
      stopped le makes number = out (Err faults.Reads) mid state now h.turns h.run (fronts faults.Reads) seen c few (h.ends, le) h.written tt
          pieces makes (omega (arith, number)) all (each, number) h.unasked

      module _ (end : IsAtEnd rest) (makes : Makes begun made (pieces ++ Gave [] ∷ [])) (lt : length pieces < most) where
        -- the input ended after a line's end
        pub ended : length buffer ≡ 0 → Out same (Ok served) mid now
        ended none =
            let empty : h.part ≡ [] = kept_none h.part (ap length (sym h.buffer_is) ∙ none) in
            out (Ok served) mid state now h.turns h.run (all_lines input rest seen (lines_asked h.turns) served c end (cut_end seen (lines_asked h.turns) h.part h.cut empty)) seen c few end h.written h.count
            (pieces ++ Gave [] ∷ []) makes (room_for_one pieces (Gave []) most lt) (came_none pieces (Gave []) seen refl all) (pieces, each, refl) h.unasked

        -- it ended within a line, which was answered so
        module _ (outcome : Result Answer LineRefusal) (call : Call) (new : Option (List ℕ)) (later : StateValue) (after : StoreValue D) (some : 0 < length buffer)
            (g : Gives outcome call (server state now) (server later after) buffer) where
          abbrev last : Turn
          last = turn outcome call (server state now) (server later after) h.part

          last_run : Run source view start (h.turns ++ last ∷ []) (server later after)
          last_run = run_more start (server state now) (server later after) h.turns last h.run (gives_unended outcome call (server state now) (server later after) h.part buffer h.buffer_is g)

          last_lines : IfSome input (AreLines (Ok 0) (lines_asked (h.turns ++ last ∷ [])))
          last_lines =
              let left : 0 < length h.part = kept_some h.part (subst (λ (l : List ℕ). 0 < length l) h.buffer_is some) in
              all_lines input rest seen (lines_asked (h.turns ++ last ∷ [])) 0 c end (sym (asked_more h.turns last) ∙ cut_rest seen (lines_asked h.turns) h.part h.cut left)

          last_unasked : {whole : Type 0} → (AsksNoRelease buffer state.held → same → whole) → AskNoRelease held (h.turns ++ last ∷ []) → whole
          last_unasked step none = step (unended_asks_none h.part buffer state.held h.buffer_is (rest_ask_none source view h.turns (last ∷ []) start (server state now) h.run none).0) (h.unasked (first_ask_none held h.turns (last ∷ []) none))

          pub ended_within : {whole : Type 0} → (AsksNoRelease buffer state.held → same → whole) → Appends mid new (bytes_of (reply_value outcome)) → Out whole (Ok (min (served + 1) (2 ^ 64 - 1))) new after
          ended_within step w =
              out (Ok (min (served + 1) (2 ^ 64 - 1))) new later after (h.turns ++ last ∷ []) last_run last_lines seen c few end
              (subst (λ (bs : List ℕ). Appends old new bs) (replies_more h.turns last) (Appends-trans old mid new (replies h.turns) (bytes_of (reply_value outcome)) h.written w))
              (count_more h.turns last served h.count)
              (pieces ++ Gave [] ∷ []) makes (room_for_one pieces (Gave []) most lt) (came_none pieces (Gave []) seen refl all) (pieces, each, refl) (last_unasked step)

          pub unwritten_within : {whole : Type 0} → (AsksNoRelease buffer state.held → same → whole) → AppendsSome mid new (bytes_of (reply_value outcome)) → Out whole (Err faults.Write) new after
          unwritten_within step w =
              let later_than : ends_in (all_of pieces) < length (h.turns ++ last ∷ []) = omega (arith, h.ends, ap ends_in all, length-append h.turns (last ∷ [])) in
              out (Err faults.Write) new later after (h.turns ++ last ∷ []) last_run (all_are_first input (lines_asked (h.turns ++ last ∷ [])) faults.Write last_lines) seen c few
              (record { before = seen; piece = []; whole = sym (append-nil seen); short = omega arith; later = omega (arith, h.ends, length-append h.turns (last ∷ [])) })
              (h.turns, last, mid, refl, h.written, w)
              tt
              (pieces ++ Gave [] ∷ []) makes (room_for_one pieces (Gave []) most lt) (came_none pieces (Gave []) seen refl all) (pieces, [], each, omega arith, refl, later_than) (last_unasked step)

    -- the reply to a line of a piece wasn't written whole
    pub unwritten : {E same step whole : Type 0} (fault : E) (mid new : Option (List ℕ)) (state later : StateValue) (now after : StoreValue D) (seen buffer piece left : List ℕ) (served : ℕ) (h : Progress same old mid start (server state now) seen buffer served)
        → IsFedUnasked step (Err fault) (intake h.part piece left mid new) (server state now) (server later after) → (step → same → whole)
        → Consumes input rest (seen ++ piece) → length (seen ++ piece) ≤ most * 4096 → length piece ≤ 4096
        → (pieces : List Reading) → All IsPiece pieces → seen ≡ all_of pieces → Makes begun made (pieces ++ Gave piece ∷ []) → length pieces < most → Out whole (Err faults.Write) new after
    unwritten fault mid new state later now after seen buffer piece left served h fed both c few short pieces each all makes lt =
        let f = fed.0 in
        let turns = h.turns ++ f.turns in
        let cut = subst (λ (ls : List (List ℕ)). AreCut (seen ++ f.taken) ls f.rest) (asked_both h.turns f.turns)
        (cut_more seen f.taken h.part f.rest (lines_asked h.turns) (lines_asked f.turns) h.cut f.lines) in
        let whole : seen ++ piece ≡ (seen ++ f.taken) ++ f.front.0 = ap (λ (l : List ℕ). seen ++ l) f.front.1 ∙ sym (append_assoc seen f.taken f.front.0) in
        let w = f.replied in
        let more : ends_in seen < length turns = omega (arith, h.ends, length-append h.turns f.turns, ap (λ (ts : List Turn). length ts) w.3, length-append w.0 (w.1 ∷ [])) in
        out (Err faults.Write) new later after turns
        (run_both start (server state now) (server later after) h.turns f.turns h.run f.run)
        (first_lines input rest (seen ++ piece) f.rest (lines_asked turns) faults.Write c
        (λ others. subst (λ (l : List ℕ). IsFront (lines_asked turns) (lines_in l)) (sym (ap (λ (l : List ℕ). l ++ others) whole ∙ append_assoc (seen ++ f.taken) f.front.0 others)) (cut_front (seen ++ f.taken) (lines_asked turns) f.rest (f.front.0 ++ others) cut)))
        (seen ++ piece) c few
        (record { before = seen; piece = piece; whole = refl; short = short; later = more }) (
          h.turns ++ w.0,
          w.1,
          w.2,
          ap (λ (ts : List Turn). h.turns ++ ts) w.3 ∙ sym (append_assoc h.turns w.0 (w.1 ∷ [])),
          subst (λ (bs : List ℕ). Appends old w.2 bs) (replies_both h.turns w.0) (Appends-trans old mid w.2 (replies h.turns) (replies w.0) h.written w.4),
          w.5,
        )
        tt
        (pieces ++ Gave piece ∷ []) makes (room_for_one pieces (Gave piece) most lt) (came_more pieces (Gave piece) seen all)
        (pieces, piece, each, short, refl, subst (λ (l : List ℕ). ends_in l < length turns) all more)
        (λ none. both (fed.1 (rest_ask_none source view h.turns f.turns start (server state now) h.run none)) (h.unasked (first_ask_none held h.turns f.turns none)))

  -- no memory for the buffer
  pub not_started : {held : Held} (same : Type 0) → same → (most : ℕ) (input old : Option (List ℕ)) (begun : Option (List Reading)) (before : StoreValue D)
      → (s : IsServed (Err faults.OutOfMemory) most held source view (with_reads (streams input input old old) begun begun) before before) × (AskNoRelease held s.turns → same)
  not_started {held} same unchanged most input old begun before =
      out held most input input old begun begun before (Err faults.OutOfMemory) old (fresh_holding held) before [] refl (first_lines input input [] [] [] faults.OutOfMemory (Consumes-nil input) (λ more. (lines_in more, refl)))
      [] (Consumes-nil input) (omega arith) (refl, refl) (Appends-nil old) tt
      [] (makes_none begun) (omega arith) refl refl (λ none. unchanged)

-- ---- pieces

-- how many bytes came of so many reads
pub few_bytes : (n reads most : ℕ) → n ≤ reads * 4096 → reads ≤ most → n ≤ most * 4096
few_bytes n reads most few le = omega (arith, few, le)

pub few_before : (n reads most : ℕ) → n ≤ reads * 4096 → reads < most → n ≤ most * 4096
few_before n reads most few lt = omega (arith, few, lt)

pub few_after : (n reads most : ℕ) → n ≤ (reads + 1) * 4096 → reads < most → n ≤ most * 4096
few_after n reads most few lt = omega (arith, few, lt)

pub few_taken : (n : ℕ) (buf : List ℕ) → length buf ≡ 4096 → length (take n buf) ≤ 4096
few_taken n buf long = omega (arith, long, length-take n buf)

pub few_more : (seen came : List ℕ) (reads : ℕ) → length seen ≤ reads * 4096 → length came ≤ 4096 → length (seen ++ came) ≤ (reads + 1) * 4096
few_more seen came reads few short = omega (arith, few, short, length-append seen came)

-- a read of no byte, with room for some, is the end
pub at_end : (input mid rest : Option (List ℕ)) (seen buf : List ℕ) (n : ℕ) → Consumes input mid seen → Consumes mid rest (take n buf) × (n ≡ 0 → 0 < length buf → IsAtEnd rest) → n ≡ 0 → 0 < length buf → Consumes input rest seen × IsAtEnd rest
at_end input mid rest seen buf n c r none long = (
  subst (λ (l : List ℕ). Consumes input rest l) (ap (λ (k : ℕ). seen ++ take k buf) none ∙ append-nil seen) (Consumes-trans input mid rest seen (take n buf) c r.0),
  r.1 none long,
)

pub next_seen : (front came : List ℕ) (i b : ℕ) → i < length came → get_or came i 0 ≡ b → (front ++ take i came) ++ b ∷ [] ≡ front ++ take (i + 1) came
next_seen front came i b lt is = append_assoc front (take i came) (b ∷ []) ∙ ap (λ (x : ℕ). front ++ (take i came ++ x ∷ [])) (sym is) ∙ ap (λ (l : List ℕ). front ++ l) (sym (take_more came i 0 lt))

pub all_seen : (front came : List ℕ) (i b : ℕ) → i < length came → get_or came i 0 ≡ b → ((front ++ take i came) ++ b ∷ []) ++ drop (i + 1) came ≡ front ++ came
all_seen front came i b lt is =
    ap (λ (l : List ℕ). l ++ drop (i + 1) came) (next_seen front came i b lt is) ∙ append_assoc front (take (i + 1) came) (drop (i + 1) came) ∙ ap (λ (l : List ℕ). front ++ l) (take-append-drop (i + 1) came)

pub not_none : (bs : List ℕ) (b : Bool) → b ≡ (length bs == 0) → b ≡ false → 0 < length bs
not_none [] b e isnt = absurd (false≢true (sym isnt ∙ e))
not_none (x ∷ xs) b e isnt = omega arith
