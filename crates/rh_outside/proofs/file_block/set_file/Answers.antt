use Rattle.rh_outside.proofs.FileBlockLemmas.{files_in-new, files_in-replaced, AreFiles-new, AreFiles-replaced}
use Rattle.rh_outside.proofs.file_block.set_file.Goals as goal

pub returns-in-Some-clause-files : goal.returns-in-Some-clause-files
returns-in-Some-clause-files c =
    let found = rw (c.as_slice.ensures.value, c.as_slice-2.ensures.value) at c.in-Some.ensures.found in
    rw c.append_file-span.ensures.items
    (files_in-replaced c.args.block.now.items c.args.name.now c.args.bytes.now c.args.spans.now.items c.in-Some.at _ c.requires.sound c.append_file-span.ensures.span found)

pub returns-in-Some-clause-sound : goal.returns-in-Some-clause-sound
returns-in-Some-clause-sound c =
    let found = rw (c.as_slice.ensures.value, c.as_slice-2.ensures.value) at c.in-Some.ensures.found in
    rw c.append_file-span.ensures.items
    (AreFiles-replaced c.args.block.now.items c.args.name.now c.args.bytes.now c.args.spans.now.items c.in-Some.at _ c.requires.sound c.append_file-span.ensures.span found)

pub returns-in-None-clause-files : goal.returns-in-None-clause-files
returns-in-None-clause-files c =
    let none = rw (c.as_slice.ensures.value, c.as_slice-2.ensures.value) at c.in-None.ensures.found in
    rw (c.append_file-span.ensures.items, c.push_reserved.ensures.items)
    (files_in-new c.args.block.now.items c.args.name.now c.args.bytes.now c.args.spans.now.items _ c.requires.sound c.append_file-span.ensures.span none)

pub returns-in-None-clause-sound : goal.returns-in-None-clause-sound
returns-in-None-clause-sound c =
    let none = rw (c.as_slice.ensures.value, c.as_slice-2.ensures.value) at c.in-None.ensures.found in
    rw (c.append_file-span.ensures.items, c.push_reserved.ensures.items)
    (AreFiles-new c.args.block.now.items c.args.name.now c.args.bytes.now c.args.spans.now.items _ c.requires.sound c.append_file-span.ensures.span none)
