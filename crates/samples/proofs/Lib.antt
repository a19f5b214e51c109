mod MadeFiles
