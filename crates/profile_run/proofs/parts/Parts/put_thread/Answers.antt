use Rattle.std.proofs.Common.{◌≡◌, ℕ, List, [], ◌∷◌, length, option_map, Ok, Err, sym, subst, ap, ◌∙◌, refl}
use Rattle.outside.specs.Files.{Files, SameBut, with_file}
use Rattle.outside.specs.Outside.{shelf_of}
use Rattle.outside.specs.Journal.{Call, Put, TellsMore}
use Rattle.outside.specs.declared.folder.PutError.TheVariants.{Failed}
use Rattle.sym_map.specs.SymbolMap.{SymbolMap}
use Rattle.part_dump.specs.Calls.{head_of}
use Rattle.part_dump.specs.Dumps.{IsUnput}
use Rattle.part_dump.specs.Files.{part_name}
use Rattle.profile_run.specs.Program.{Options}
use Rattle.profile_run.specs.inner.Standing.{HasPut, calls_below, files_after}
use Rattle.recorder.specs.inner.Known.{KnowsPlaces}
use Rattle.profile_run.proofs.Others.{are_whole}
use Rattle.profile_run.proofs.PutThreadLemmas as puts
use Rattle.profile_run.proofs.PutThreadLemmas.{Takes}
use Rattle.profile_run.proofs.PuttingLemmas as putting
use Rattle.profile_run.proofs.parts.Parts.put_thread.Goals as goal

pub returns-then-not-had_event-clause-puts : goal.returns-then-not-had_event-clause-puts
returns-then-not-had_event-clause-puts g c = λ plan same asked is put.
    let h = c.args.self.now.head in
    let P : Options → Type 0 = λ o.
    HasPut o.base (files_after g.W.Watch.meaning plan (calls_below plan h.part h.trigger c.args.thread.0)) plan.folder
    (shelf_of g.F.Folder c.args.folder.now) c.args.self.now.put.items in
    puts.no_part g.W.Watch.meaning plan h c.args.recorder.now c.args.watch.now c.args.thread is c.args.self.now
    (shelf_of g.F.Folder c.args.folder.now) refl (subst P (sym asked) put)
    (sym c.had_event.ensures ∙ c.if-not-had_event.true)

pub returns-then-not-had_event-clause-can : goal.returns-then-not-had_event-clause-can
returns-then-not-had_event-clause-can g c =
    let plan = c.requires.plan in
    let h = c.args.self.now.head in
    record {
      plan = plan;
      is_fresh = c.requires.is_fresh;
      symbols = c.requires.symbols;
      options = c.requires.options;
      knows = c.requires.knows;
      putting =
          putting.none_next g.W.Watch.meaning plan c.args.thread.0 h c.args.recorder.now c.args.watch.now
          c.requires.putting c.args.thread refl
          (putting.none_there g.W.Watch.meaning plan c.args.thread.0 h c.args.recorder.now c.args.watch.now
          c.requires.putting c.args.thread refl (sym c.had_event.ensures ∙ c.if-not-had_event.true));
    }

pub take_rows-requires : goal.take_rows-requires
take_rows-requires g c = record {
  known =
      putting.known_there g.W.Watch.meaning c.requires.plan c.args.thread.0 c.args.self.now.head c.args.recorder.now
      c.args.watch.now c.requires.putting c.args.thread refl (sym c.had_event.ensures ∙ c.if-not-had_event.false);
}

pub returns-in-Err-clause-puts : goal.returns-in-Err-clause-puts
returns-in-Err-clause-puts g c = λ plan same asked is put.
    let h = c.args.self.now.head in
    let P : Options → Type 0 = λ o.
    HasPut o.base (files_after g.W.Watch.meaning plan (calls_below plan h.part h.trigger c.args.thread.0)) plan.folder
    (shelf_of g.F.Folder c.args.folder.now) c.args.self.now.put.items in
    puts.wanting g.W.Watch.meaning plan h c.args.recorder.now c.args.watch.now c.args.thread is
    c.args.self.now.put.items (shelf_of g.F.Folder c.args.folder.now) (subst P (sym asked) put)

pub part-requires : goal.part-requires
part-requires g c =
    let plan = c.requires.plan in
    let h = c.args.self.now.head in
    let some = sym c.had_event.ensures ∙ c.if-not-had_event.false in
    let places = subst KnowsPlaces (sym c.requires.symbols) c.requires.knows in
    let taken : Takes c.args.recorder.now c.take_rows.new.self c.args.thread c.in-Ok.rows = record {
      stands = c.in-Ok.ensures.stands;
      whole = are_whole c.in-Ok.rows c.in-Ok.ensures.whole_lines c.in-Ok.ensures.whole_arcs;
      own = c.in-Ok.ensures.account;
      bounds = c.take_rows.ensures.bounds;
      others = c.take_rows.ensures.others;
      known = c.take_rows.ensures.known;
    } in
    let P : SymbolMap → Type 0 = λ syms.
    g.W.Watch.can_write c.args.watch.now (head_of h h.part h.trigger c.args.thread.0) c.in-Ok.rows syms in
    subst P c.requires.symbols
    (puts.can_write g.W.Watch.meaning plan h c.args.recorder.now c.args.watch.now c.args.thread c.requires.putting some
    places c.take_rows.new.self c.in-Ok.rows taken g.W.Watch.can_see g.W.Watch.can_write g.W.Watch.fresh
    g.met.W.Watch.lasts c.requires.is_fresh)

pub returns-in-Err-part-clause-puts : goal.returns-in-Err-part-clause-puts
returns-in-Err-part-clause-puts g c = λ plan same asked is put.
    let h = c.args.self.now.head in
    let P : Options → Type 0 = λ o.
    HasPut o.base (files_after g.W.Watch.meaning plan (calls_below plan h.part h.trigger c.args.thread.0)) plan.folder
    (shelf_of g.F.Folder c.args.folder.now) c.args.self.now.put.items in
    puts.wanting g.W.Watch.meaning plan h c.args.recorder.now c.args.watch.now c.args.thread is
    c.args.self.now.put.items (shelf_of g.F.Folder c.args.folder.now) (subst P (sym asked) put)

pub returns-in-Ok-dump_text-clause-puts : goal.returns-in-Ok-dump_text-clause-puts
returns-in-Ok-dump_text-clause-puts g c = λ plan same asked is put.
    let h = c.args.self.now.head in
    let w = c.args.watch.now in
    let some = sym c.had_event.ensures ∙ c.if-not-had_event.false in
    let places = subst KnowsPlaces (sym same) c.requires.knows in
    let taken : Takes c.args.recorder.now c.take_rows.new.self c.args.thread c.in-Ok.rows = record {
      stands = c.in-Ok.ensures.stands;
      whole = are_whole c.in-Ok.rows c.in-Ok.ensures.whole_lines c.in-Ok.ensures.whole_arcs;
      own = c.in-Ok.ensures.account;
      bounds = c.take_rows.ensures.bounds;
      others = c.take_rows.ensures.others;
      known = c.take_rows.ensures.known;
    } in
    let P : Options → Type 0 = λ o.
    HasPut o.base (files_after g.W.Watch.meaning plan (calls_below plan h.part h.trigger c.args.thread.0)) plan.folder
    (shelf_of g.F.Folder c.args.folder.now) c.args.self.now.put.items in
    let name : c.as_str.result.now ≡ plan.guest.options.base =
    c.as_str.ensures.value ∙ ap (λ (o : Options). o.base) c.options.view_is
    ∙ ap (λ (o : Options). o.base) (sym asked) in
    let answer : (c.in-Ok-dump_text.len ≡ length c.in-Ok-part.text)
    × (g.F.Folder.contents c.dump_text.new.folder
    ≡ option_map (λ (files : Files). with_file files (part_name c.as_str.result.now h.part c.args.thread.0)
    c.in-Ok-part.text) (g.F.Folder.contents c.args.folder.now))
    × TellsMore (g.F.Folder.calls c.args.folder.now)
    (Put (part_name c.as_str.result.now h.part c.args.thread.0) c.in-Ok-part.text (Ok tt) ∷ [])
    (g.F.Folder.calls c.dump_text.new.folder) =
    c.in-Ok-dump_text.ensures.answer in
    puts.puts_one g.W.Watch.meaning plan h c.args.recorder.now w c.args.thread is some places c.take_rows.new.self
    c.in-Ok.rows taken c.part.new.self
    (c.in-Ok-part.ensures.ok
    ∙ ap (λ (syms : SymbolMap). g.W.Watch.meaning.after_part w (head_of h h.part h.trigger c.args.thread.0) c.in-Ok.rows
    syms) (sym same))
    (head_of h h.part h.trigger c.args.thread.0) refl c.args.self.now.put.items
    (shelf_of g.F.Folder c.args.folder.now) (shelf_of g.F.Folder c.dump_text.new.folder) (subst P (sym asked) put)
    c.in-Ok-part.text
    (c.in-Ok-part.ensures.text
    ∙ ap (λ (syms : SymbolMap). g.W.Watch.meaning.text w (head_of h h.part h.trigger c.args.thread.0) c.in-Ok.rows
    syms) (sym same))
    c.in-Ok-dump_text.len answer.0
    (answer.1 ∙ ap (λ base. option_map (λ (files : Files). with_file files (part_name base h.part c.args.thread.0)
    c.in-Ok-part.text) (g.F.Folder.contents c.args.folder.now)) name)
    (subst (λ base. TellsMore (g.F.Folder.calls c.args.folder.now)
    (Put (part_name base h.part c.args.thread.0) c.in-Ok-part.text (Ok tt) ∷ [])
    (g.F.Folder.calls c.dump_text.new.folder)) name answer.2)
    c.list.result c.list.new.self
    (g.F.Folder.put_faults c.args.folder.now) (g.F.Folder.put_faults c.dump_text.new.folder) c.list.ensures.head
    c.list.ensures.ok c.list.ensures.err

pub returns-in-Ok-dump_text-clause-can : goal.returns-in-Ok-dump_text-clause-can
returns-in-Ok-dump_text-clause-can g c =
    let plan = c.requires.plan in
    let h = c.args.self.now.head in
    let w = c.args.watch.now in
    let some = sym c.had_event.ensures ∙ c.if-not-had_event.false in
    let places = subst KnowsPlaces (sym c.requires.symbols) c.requires.knows in
    let taken : Takes c.args.recorder.now c.take_rows.new.self c.args.thread c.in-Ok.rows = record {
      stands = c.in-Ok.ensures.stands;
      whole = are_whole c.in-Ok.rows c.in-Ok.ensures.whole_lines c.in-Ok.ensures.whole_arcs;
      own = c.in-Ok.ensures.account;
      bounds = c.take_rows.ensures.bounds;
      others = c.take_rows.ensures.others;
      known = c.take_rows.ensures.known;
    } in
    puts.on_ok c.list.result
    (record {
      plan = plan;
      is_fresh = c.requires.is_fresh;
      symbols = c.requires.symbols;
      options = c.requires.options;
      knows = c.requires.knows;
      putting =
          puts.putting_next g.W.Watch.meaning plan h c.args.recorder.now w c.args.thread c.requires.putting some places
          c.take_rows.new.self c.in-Ok.rows taken c.part.new.self
          (c.in-Ok-part.ensures.ok
          ∙ ap (λ (syms : SymbolMap). g.W.Watch.meaning.after_part w (head_of h h.part h.trigger c.args.thread.0)
          c.in-Ok.rows syms) (sym c.requires.symbols))
          c.list.new.self.head c.list.ensures.head;
    })

pub returns-in-Err-PutFault-clause-puts : goal.returns-in-Err-PutFault-clause-puts
returns-in-Err-PutFault-clause-puts g c = λ plan same asked is put.
    let h = c.args.self.now.head in
    let w = c.args.watch.now in
    let some = sym c.had_event.ensures ∙ c.if-not-had_event.false in
    let places = subst KnowsPlaces (sym same) c.requires.knows in
    let taken : Takes c.args.recorder.now c.take_rows.new.self c.args.thread c.in-Ok.rows = record {
      stands = c.in-Ok.ensures.stands;
      whole = are_whole c.in-Ok.rows c.in-Ok.ensures.whole_lines c.in-Ok.ensures.whole_arcs;
      own = c.in-Ok.ensures.account;
      bounds = c.take_rows.ensures.bounds;
      others = c.take_rows.ensures.others;
      known = c.take_rows.ensures.known;
    } in
    let P : Options → Type 0 = λ o.
    HasPut o.base (files_after g.W.Watch.meaning plan (calls_below plan h.part h.trigger c.args.thread.0)) plan.folder
    (shelf_of g.F.Folder c.args.folder.now) c.args.self.now.put.items in
    let Q : List ℕ → Type 0 = λ base.
    SameBut (part_name base h.part c.args.thread.0) (g.F.Folder.contents c.args.folder.now)
    (g.F.Folder.contents c.dump_text.new.folder)
    × TellsMore (g.F.Folder.calls c.args.folder.now)
    (Put (part_name base h.part c.args.thread.0) c.in-Ok-part.text (Err Failed) ∷ [])
    (g.F.Folder.calls c.dump_text.new.folder) in
    let answer = rw c.in-Err-PutFault.field-0-is at c.in-Err-PutFault.ensures.answer in
    let told : Q plan.guest.options.base =
    subst Q
    (c.as_str.ensures.value ∙ ap (λ (o : Options). o.base) c.options.view_is
    ∙ ap (λ (o : Options). o.base) (sym asked)) (answer.1, answer.2) in (
      refl,
      answer.0,
      puts.fails g.W.Watch.meaning plan h c.args.recorder.now w c.args.thread is some places c.take_rows.new.self
          c.in-Ok.rows taken c.args.self.now.put.items (shelf_of g.F.Folder c.args.folder.now)
          (shelf_of g.F.Folder c.dump_text.new.folder) (subst P (sym asked) put) told.0 c.in-Ok-part.text
          (c.in-Ok-part.ensures.text
          ∙ ap (λ (syms : SymbolMap). g.W.Watch.meaning.text w (head_of h h.part h.trigger c.args.thread.0)
          c.in-Ok.rows syms) (sym same))
          told.1,
    )

pub returns-clause-puts : goal.returns-clause-puts
returns-clause-puts g c = λ plan same asked is put.
    let h = c.args.self.now.head in
    let w = c.args.watch.now in
    let some = sym c.had_event.ensures ∙ c.if-not-had_event.false in
    let places = subst KnowsPlaces (sym same) c.requires.knows in
    let taken : Takes c.args.recorder.now c.take_rows.new.self c.args.thread c.in-Ok.rows = record {
      stands = c.in-Ok.ensures.stands;
      whole = are_whole c.in-Ok.rows c.in-Ok.ensures.whole_lines c.in-Ok.ensures.whole_arcs;
      own = c.in-Ok.ensures.account;
      bounds = c.take_rows.ensures.bounds;
      others = c.take_rows.ensures.others;
      known = c.take_rows.ensures.known;
    } in
    let P : Options → Type 0 = λ o.
    HasPut o.base (files_after g.W.Watch.meaning plan (calls_below plan h.part h.trigger c.args.thread.0)) plan.folder
    (shelf_of g.F.Folder c.args.folder.now) c.args.self.now.put.items in
    let Q : List ℕ → Type 0 = λ base.
    SameBut (part_name base h.part c.args.thread.0) (g.F.Folder.contents c.args.folder.now)
    (g.F.Folder.contents c.dump_text.new.folder)
    × ((calls : List Call) × IsUnput (part_name base h.part c.args.thread.0) c.in-Ok-part.text calls
    × TellsMore (g.F.Folder.calls c.args.folder.now) calls (g.F.Folder.calls c.dump_text.new.folder)) in
    let told : Q plan.guest.options.base =
    subst Q
    (c.as_str.ensures.value ∙ ap (λ (o : Options). o.base) c.options.view_is
    ∙ ap (λ (o : Options). o.base) (sym asked))
    (rw c.in-Err-OutOfMemory.field-0-is at c.in-Err-OutOfMemory.ensures.answer) in
    puts.wants g.W.Watch.meaning plan h c.args.recorder.now w c.args.thread is some places c.take_rows.new.self
    c.in-Ok.rows taken c.args.self.now.put.items (shelf_of g.F.Folder c.args.folder.now)
    (shelf_of g.F.Folder c.dump_text.new.folder) (subst P (sym asked) put) told.0 c.in-Ok-part.text
    (c.in-Ok-part.ensures.text
    ∙ ap (λ (syms : SymbolMap). g.W.Watch.meaning.text w (head_of h h.part h.trigger c.args.thread.0)
    c.in-Ok.rows syms) (sym same))
    told.1.0 told.1.1 told.1.2
